pub mod Built
pub mod Draw
