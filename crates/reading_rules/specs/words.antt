pub mod Parting
pub mod Numeral
pub mod Names
