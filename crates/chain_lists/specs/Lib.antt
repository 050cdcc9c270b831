pub mod rising
pub mod sn_sites
pub mod listing
pub mod indices
