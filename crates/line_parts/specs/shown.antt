pub mod Chained
pub mod Notes
