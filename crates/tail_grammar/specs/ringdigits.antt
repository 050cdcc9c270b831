pub mod Grammar
pub mod Digits
