use Rattle.chain_indices.proofs.carried_atoms.Laws.{carbonyl-one, carbonyl-zero, carbonyl-not}
use Rattle.chain_indices.proofs.carried_atoms.carbonyl_atoms.Goals as goal

pub returns-then-k-eq1 : goal.returns-then-k-eq1
returns-then-k-eq1 c = search carbonyl-one

pub returns-then-acyl : goal.returns-then-acyl
returns-then-acyl c = search carbonyl-zero

pub returns : goal.returns
returns c = search carbonyl-not
