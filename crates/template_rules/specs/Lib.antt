pub mod Template
pub mod Drawn
pub mod Written
pub mod Built
pub mod Atoms
pub mod Chains
pub mod Promise
