pub mod Put
pub mod Marks
pub mod Told
