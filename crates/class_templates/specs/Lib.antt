pub mod Templates
pub mod Classes
