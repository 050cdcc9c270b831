use native.Mathlib.Omega.{arith}
use Rattle.chain_record.proofs.plain.Laws.{length-mapped}
use Rattle.sn_labels.proofs.label_block.FallingLaws.{fall-none, fall-more, fall-not, fall-all}
use Rattle.sn_labels.proofs.label_block.falls.Goals as goal

pub loop-i-init : goal.loop-i-init
loop-i-init c = (omega arith, search length-mapped, search fall-none)

pub returns-then-next-last : goal.returns-then-next-last
returns-then-next-last c = fall-not _

pub loop-i-preserved : goal.loop-i-preserved
loop-i-preserved c = (omega arith, omega arith, search fall-more)

pub returns : goal.returns
returns c = search fall-all
