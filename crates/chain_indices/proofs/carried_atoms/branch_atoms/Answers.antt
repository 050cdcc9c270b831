use Rattle.chain_indices.proofs.carried_atoms.Laws.{branch-counted}
use Rattle.chain_indices.proofs.carried_atoms.branch_atoms.Goals as goal

pub returns : goal.returns
returns c = search branch-counted
