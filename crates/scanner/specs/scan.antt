pub use Rattle.scanner.specs.part.Ascii
pub use Rattle.scanner.specs.part.Part
pub mod Number
