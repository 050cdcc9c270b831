pub mod Build
pub mod Line
