use Rattle.chain_indices.proofs.atoms.AtomLaws.{bridge-one, bridge-zero}
use Rattle.chain_indices.proofs.atoms.bridge_atoms.Goals as goal

pub returns-then-bond-eq79 : goal.returns-then-bond-eq79
returns-then-bond-eq79 c = search bridge-one

pub returns : goal.returns
returns c = search bridge-zero
