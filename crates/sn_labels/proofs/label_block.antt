pub mod Sites
pub mod Laws
pub mod FallingLaws
