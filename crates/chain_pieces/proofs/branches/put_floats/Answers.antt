use native.Mathlib.Omega.{arith}
use Rattle.carbons.proofs.Left.{left-all, left-length}
use Rattle.chain_pieces.proofs.branches.Laws.{float-next, floats-end}
use Rattle.chain_pieces.proofs.branches.put_floats.Goals as goal

pub loop-group-init : goal.loop-group-init
loop-group-init c = left-all _ _ _ (omega arith)

pub loop-group-preserved : goal.loop-group-preserved
loop-group-preserved c = search (float-next, arith)

pub shape_of-out : goal.shape_of-out
shape_of-out c = search left-length

pub returns : goal.returns
returns c = search (floats-end, arith)
