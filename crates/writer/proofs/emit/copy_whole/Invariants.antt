use Prim.Native.Nat.{◌+◌}
use lib.ListN.{take}
use Rattle.writer.specs.store.Text.{Written}
use Rattle.writer.proofs.emit.copy_whole.Given as goal

abbrev pub invariant-loop-i : goal.invariant-loop-i
invariant-loop-i g l = Written l.initial.out l.at (take l.i l.xs) l.out (l.at + l.i)
