pub use Rattle.line_blocks.specs.chain_marks.Marks
pub use Rattle.line_blocks.specs.chain_sites.Sites
pub mod Notes
