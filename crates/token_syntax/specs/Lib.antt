pub mod brackets
pub mod split
pub mod padded
pub mod numbers
pub mod form
