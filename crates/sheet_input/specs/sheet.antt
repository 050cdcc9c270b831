pub use Rattle.sheet_input.specs.header.Header
pub use Rattle.sheet_input.specs.cellwords.Words
pub use Rattle.sheet_input.specs.cells.Cells
pub mod Sheet
