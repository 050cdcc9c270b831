pub mod Sum
pub mod Totals
