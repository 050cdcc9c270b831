use Rattle.chain_indices.proofs.atoms.NumberLaws.{tail_none, tail-some}
use Rattle.chain_indices.proofs.atoms.tail_end.Goals as goal

pub returns-then-n-eq0 : goal.returns-then-n-eq0
returns-then-n-eq0 c = search tail_none

pub returns : goal.returns
returns c = search tail-some
