use native.Mathlib.Omega.{arith}
use Rattle.chain_record.proofs.plain.Laws.{length-mapped}
use Rattle.sn_labels.proofs.label_block.Laws.{next-none, next_more}
use Rattle.sn_labels.proofs.label_block.next_atom.Goals as goal

pub loop-i-init : goal.loop-i-init
loop-i-init c = (search length-mapped, search next-none)

pub loop-i-preserved : goal.loop-i-preserved
loop-i-preserved c = (omega arith, search next_more)
