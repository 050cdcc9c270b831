pub use Rattle.chain_lists.specs.rising.Four
pub use Rattle.chain_lists.specs.rising.Order
pub use Rattle.chain_lists.specs.sn_sites.Sites
pub mod Lists
