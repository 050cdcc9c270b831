use native.Mathlib.Omega.{arith}
use Rattle.writer.proofs.store.Laws.{written_one}
use Rattle.writer.proofs.emit.put_each.Goals as goal

pub loop-x-preserved : goal.loop-x-preserved
loop-x-preserved g c = search (written_one, arith)
