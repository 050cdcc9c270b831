pub use Rattle.chain_lists.proofs.sn_sites.PlacedLaws
pub use Rattle.chain_lists.proofs.sn_sites.SitesLaws
pub mod ListsLaws
