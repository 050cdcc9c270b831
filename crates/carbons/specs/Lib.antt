pub mod ByCarbon
pub mod Tokens
