pub mod labels
pub mod branches
pub mod backbone
pub mod runs
