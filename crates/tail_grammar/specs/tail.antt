pub use Rattle.tail_grammar.specs.ringdigits.Grammar
pub mod Contract
