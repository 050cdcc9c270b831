use Rattle.chain_indices.proofs.atoms.NumberLaws.{FloatSum}
use Rattle.chain_indices.proofs.atoms.float_end.Given as goal

abbrev pub invariant-loop-group : goal.invariant-loop-group
invariant-loop-group l = FloatSum l.floats l.first l.end l.group-index
