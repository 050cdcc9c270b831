pub mod TextLaws
pub mod TurnLaws
pub mod SegmentLaws
pub mod DoubleLaws
pub mod BareLaws
