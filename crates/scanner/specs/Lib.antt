pub mod part
pub mod digits
pub mod scan
pub mod reader
