pub mod remnant
pub mod header
pub mod cellwords
pub mod cutting
pub mod cells
pub mod sheet
