pub mod Each
pub mod Laws
