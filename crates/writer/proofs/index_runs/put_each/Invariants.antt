use Rattle.writer.specs.emit.Text.{Written}
use Rattle.writer.specs.index_runs.Index.{indices, ups}
use Rattle.writer.proofs.index_runs.put_each.Given as goal

abbrev pub invariant-loop-i : goal.invariant-loop-i
invariant-loop-i l = Written l.initial.index l.at (indices l.first (ups l.next l.i)) l.index l.p
