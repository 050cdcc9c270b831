pub mod opening
pub mod positions
