pub mod Gaps
pub mod Falling
