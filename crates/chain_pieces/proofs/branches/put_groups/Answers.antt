use native.Mathlib.Omega.{arith}
use Rattle.carbons.proofs.Left.{left-all, left-length}
use Rattle.chain_pieces.proofs.branches.Laws.{group-here, group-past, groups-end}
use Rattle.chain_pieces.proofs.branches.put_groups.Goals as goal

pub loop-group-init : goal.loop-group-init
loop-group-init c = left-all _ _ _ (omega arith)

pub loop-group-preserved-then-group-k : goal.loop-group-preserved-then-group-k
loop-group-preserved-then-group-k c = search (group-here, arith)

pub loop-group-preserved : goal.loop-group-preserved
loop-group-preserved c = search (group-past, arith)

pub shape_of-out : goal.shape_of-out
shape_of-out c = search left-length

pub returns : goal.returns
returns c = search (groups-end, arith)
