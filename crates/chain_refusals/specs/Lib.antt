pub mod clash
pub mod pins
pub mod refusals
