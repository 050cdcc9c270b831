pub mod Built
pub mod Templates
pub mod Classes
pub mod Small
pub mod Fits
