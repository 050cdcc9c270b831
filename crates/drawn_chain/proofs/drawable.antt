pub mod Held
pub mod Through
pub mod Turns
pub mod Lists
pub mod Parts
