pub mod Token
pub mod Request
pub mod Lent
pub mod Short
