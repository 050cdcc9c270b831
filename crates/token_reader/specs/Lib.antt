pub mod seats
pub mod token
