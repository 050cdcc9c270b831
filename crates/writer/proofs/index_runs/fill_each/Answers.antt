use native.Mathlib.Omega.{arith}
use Rattle.writer.proofs.index_runs.Runs.{fill_none, fill_more}
use Rattle.writer.proofs.index_runs.fill_each.Goals as goal

pub loop-i-init : goal.loop-i-init
loop-i-init c = search (fill_none, arith)

pub loop-i-preserved : goal.loop-i-preserved
loop-i-preserved c = search (fill_more, arith)
