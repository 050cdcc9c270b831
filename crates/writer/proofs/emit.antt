pub mod Over
pub use Rattle.writer.proofs.store.Laws
pub mod ReadsBack
