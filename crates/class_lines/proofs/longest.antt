pub mod Once
pub mod Blocks
pub mod Texts
pub mod Chains
pub mod Templates
pub mod Line
pub mod Stood
pub mod Numbers
