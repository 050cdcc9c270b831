pub mod class
