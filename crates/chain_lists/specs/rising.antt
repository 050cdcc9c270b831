pub mod Four
pub mod Order
