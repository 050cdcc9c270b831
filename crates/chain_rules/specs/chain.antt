pub mod Lists
pub mod Features
pub mod Refusals
pub mod Bonds
pub mod Drawing
pub mod Counts
