pub use Rattle.class_templates.specs.Templates
pub use Rattle.class_templates.specs.Classes
pub mod Line
