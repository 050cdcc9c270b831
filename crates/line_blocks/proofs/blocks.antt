pub mod Notes
pub mod Bare
