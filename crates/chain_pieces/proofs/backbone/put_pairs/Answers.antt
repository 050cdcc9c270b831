use native.Mathlib.Omega.{arith}
use Rattle.carbons.proofs.Left.{left-all, left-length}
use Rattle.chain_pieces.proofs.backbone.Laws.{pair-next, pairs_end}
use Rattle.chain_pieces.proofs.backbone.put_pairs.Goals as goal

pub loop-left-init : goal.loop-left-init
loop-left-init c = left-all _ _ _ (omega arith)

pub loop-left-preserved : goal.loop-left-preserved
loop-left-preserved c = search (pair-next, arith)

pub shape_of-out : goal.shape_of-out
shape_of-out c = search left-length

pub returns : goal.returns
returns c = search pairs_end
