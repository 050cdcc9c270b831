pub mod Laws
pub mod Times
pub mod Room
