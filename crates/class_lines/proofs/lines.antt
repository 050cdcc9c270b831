pub use Rattle.class_templates.proofs.Fits
pub mod Following
pub mod Room
