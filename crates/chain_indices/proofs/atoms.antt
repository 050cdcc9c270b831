pub mod Runs
pub mod AtomLaws
pub mod NumberLaws
pub mod Bridges
pub mod Within
pub mod Readable
