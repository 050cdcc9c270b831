pub mod FallingLaws
pub mod FourLaws
pub mod OrderLaws
pub mod Picked
pub mod Sorted
