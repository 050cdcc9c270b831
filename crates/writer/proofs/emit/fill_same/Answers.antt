use native.Mathlib.Omega.{arith}
use Rattle.writer.proofs.store.Laws.{fill-none, fill-more}
use Rattle.writer.proofs.emit.fill_same.Goals as goal

pub loop-i-init : goal.loop-i-init
loop-i-init g c = search (fill-none, arith)

pub loop-i-preserved : goal.loop-i-preserved
loop-i-preserved g c = search (fill-more, arith)
