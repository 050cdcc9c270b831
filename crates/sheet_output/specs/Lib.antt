pub mod digit_pairs
pub mod carbon_lists
pub mod rows
