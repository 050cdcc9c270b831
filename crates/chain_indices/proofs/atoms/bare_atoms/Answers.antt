use Rattle.chain_indices.proofs.atoms.AtomLaws.{bare-counted}
use Rattle.chain_indices.proofs.atoms.bare_atoms.Goals as goal

pub returns : goal.returns
returns c = search bare-counted
