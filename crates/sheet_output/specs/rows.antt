pub use Rattle.sheet_frame.specs.row_heads.Text
pub mod Chains
