use native.Mathlib.Omega.{arith}
use Rattle.writer.proofs.emit.Laws.{written-nil, written-length}
use Rattle.sn_labels.proofs.label_block.Laws.{closed, through-gap, through-all}
use Rattle.sn_labels.proofs.label_block.put_through.Goals as goal

pub loop-atom-init : goal.loop-atom-init
unfolding closed
loop-atom-init c = (omega arith, written-nil _ _ (omega arith))

pub loop-atom-preserved : goal.loop-atom-preserved
loop-atom-preserved c = (omega arith, search (through-gap, arith))

pub returns : goal.returns
returns c = search (through-all, arith)

pub shape_of-out : goal.shape_of-out
shape_of-out c = written-length (returns c)
