pub mod Fronts
pub mod Left
pub mod BondLaws
pub mod Placing
pub mod Loads
pub mod TokenLaws
pub mod Bridges
pub mod Bare
