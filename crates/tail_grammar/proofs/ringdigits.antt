pub mod Digits
pub mod Scan
