pub use Rattle.chain_rules.specs.kind.Kind
pub mod Rising
