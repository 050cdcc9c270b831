use native.Mathlib.Omega.{arith}
use Rattle.writer.proofs.store.Laws.{copy-none, copy-more, written-whole}
use Rattle.writer.proofs.emit.copy_whole.Goals as goal

pub loop-i-init : goal.loop-i-init
loop-i-init g c = search (copy-none, arith)

pub loop-i-preserved : goal.loop-i-preserved
loop-i-preserved g c = search (copy-more, arith)

pub returns : goal.returns
returns g c = search (written-whole, arith)
