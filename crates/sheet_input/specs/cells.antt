pub use Rattle.sheet_input.specs.cellwords.Words
pub mod Cells
