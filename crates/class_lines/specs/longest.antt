pub mod Longest
pub mod Covered
