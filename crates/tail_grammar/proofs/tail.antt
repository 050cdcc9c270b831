pub mod Scan
pub mod Plain
pub mod Alone
pub mod Exactly
pub mod Atoms
pub mod Examples
