pub mod Lists
pub mod Accepted
pub mod Bonds
pub mod Branches
pub mod Fits
pub mod Atoms
pub mod Counts
pub mod Few
