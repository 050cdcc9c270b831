use Prim.Native.Nat.{◌+◌}
use Rattle.writer.specs.emit.Text.{Written}
use Rattle.writer.specs.index_runs.Index.{ups}
use Rattle.writer.proofs.index_runs.fill_each.Given as goal

abbrev pub invariant-loop-i : goal.invariant-loop-i
invariant-loop-i l = Written l.initial.index l.at (ups l.low l.i) l.index (l.at + l.i)
