pub mod store
pub mod emit
pub mod index_runs
