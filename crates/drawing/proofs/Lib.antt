pub mod Answered
pub mod Draw
