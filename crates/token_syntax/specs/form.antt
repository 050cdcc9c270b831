pub use Rattle.token_syntax.specs.split.Parts
pub use Rattle.token_syntax.specs.numbers.Numbers
pub mod Form
