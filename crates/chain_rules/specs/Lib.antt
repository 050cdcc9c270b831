pub mod chain
pub mod kind
