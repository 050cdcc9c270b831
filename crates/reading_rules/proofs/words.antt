pub mod PartingLaws
pub mod NumeralLaws
pub mod NameLaws
