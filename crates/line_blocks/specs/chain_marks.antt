pub mod Put
pub mod Marks
