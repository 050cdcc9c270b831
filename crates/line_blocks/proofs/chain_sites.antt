pub mod Sites
pub mod Told
