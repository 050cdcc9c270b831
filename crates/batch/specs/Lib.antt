pub mod Reply
pub mod Batch
