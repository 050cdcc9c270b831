pub mod PlacedLaws
pub mod SitesLaws
