use native.Mathlib.Omega.{arith}
use Rattle.writer.proofs.store.Laws.{same-none, same-more}
use Rattle.writer.proofs.emit.repeat_each.Goals as goal

pub loop-init : goal.loop-init
loop-init g c = search (same-none, arith)

pub loop-preserved : goal.loop-preserved
loop-preserved g c = search (same-more, arith)
