pub mod Notes
pub mod Fragment
