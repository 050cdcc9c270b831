pub mod Shapes
pub mod Sn
