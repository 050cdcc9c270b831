pub mod Drawn
pub mod Chains
