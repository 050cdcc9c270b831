use native.Mathlib.Omega.{arith}
use Rattle.chain_indices.proofs.atoms.NumberLaws.{floats-start, float-counted, floats-counted}
use Rattle.chain_indices.proofs.atoms.float_end.Goals as goal

pub loop-group-init : goal.loop-group-init
loop-group-init c = search floats-start

pub loop-group-preserved : goal.loop-group-preserved
loop-group-preserved c = search (float-counted, arith)

pub returns : goal.returns
returns c = search (floats-counted, arith)
