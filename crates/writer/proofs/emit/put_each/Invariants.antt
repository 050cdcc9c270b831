use lib.ListN.{take}
use Rattle.writer.specs.store.Text.{Written}
use Rattle.writer.proofs.emit.put_each.Given as goal

abbrev pub invariant-loop-x : goal.invariant-loop-x
invariant-loop-x g l = Written l.initial.out l.at (take l.x-index l.xs) l.out l.p
