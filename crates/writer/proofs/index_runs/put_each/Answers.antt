use native.Mathlib.Omega.{arith}
use Rattle.writer.proofs.index_runs.Runs.{each_none, each_more}
use Rattle.writer.proofs.index_runs.put_each.Goals as goal

pub loop-i-init : goal.loop-i-init
loop-i-init c = each_none _ _ _ _ (omega arith)

pub loop-i-preserved : goal.loop-i-preserved
loop-i-preserved c = search (each_more, arith)
