pub mod ring
pub mod segment
