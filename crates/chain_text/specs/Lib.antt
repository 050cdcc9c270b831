pub mod fragment
pub mod grouped_text
