-- Laws of the writers of groups, for those who number the atoms that are written.
-- Assumes nothing.
pub use Rattle.chain_pieces.proofs.branches.Laws.{branch-size, sitting-first, sitting-past}
