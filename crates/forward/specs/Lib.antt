pub use Rattle.answers.specs.answer.Answer
pub mod Call
pub mod Cases
