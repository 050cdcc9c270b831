use Prim.Native.Nat.{◌+◌}
use lib.ListN.{replicate}
use Rattle.writer.specs.store.Text.{Written}
use Rattle.writer.proofs.emit.fill_same.Given as goal

abbrev pub invariant-loop-i : goal.invariant-loop-i
invariant-loop-i g l = Written l.initial.out l.at (replicate l.i l.x) l.out (l.at + l.i)
