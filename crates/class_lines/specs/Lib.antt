pub mod lines
pub mod longest
