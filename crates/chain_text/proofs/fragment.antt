pub mod TextLaws
pub mod RangeLaws
pub mod SegmentLaws
