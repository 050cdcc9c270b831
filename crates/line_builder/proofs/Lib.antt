pub mod Pushes
pub mod Line
