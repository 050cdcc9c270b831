pub mod answer
pub mod room
