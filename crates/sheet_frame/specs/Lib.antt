pub mod row_heads
pub mod tally
pub mod beginning
