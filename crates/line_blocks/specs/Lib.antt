pub mod chain_marks
pub mod chain_sites
pub mod blocks
