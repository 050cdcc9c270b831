use native.Mathlib.Omega.{arith}
use Rattle.carbons.proofs.Left.{left-all, left-length}
use Rattle.chain_pieces.proofs.labels.Laws.{label-next, labels-end}
use Rattle.chain_pieces.proofs.labels.put_labels.Goals as goal

pub loop-ring-init : goal.loop-ring-init
loop-ring-init c = (omega arith, left-all _ _ _ (omega arith))

pub loop-ring-preserved : goal.loop-ring-preserved
loop-ring-preserved c = (omega arith, search (label-next, arith))

pub shape_of-out : goal.shape_of-out
shape_of-out c = search left-length

pub returns : goal.returns
returns c = search (labels-end, arith)
