pub mod Each
pub mod Positions
