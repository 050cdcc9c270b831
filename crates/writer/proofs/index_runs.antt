pub mod IndexLaws
pub mod Runs
