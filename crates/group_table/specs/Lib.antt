pub mod groups
pub mod abbreviations
