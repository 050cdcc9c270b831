pub mod rooms
pub mod drawable
pub mod reach
pub mod fitted
