pub mod Groups
pub mod Follows
pub mod Grouped
pub mod BareLaws
