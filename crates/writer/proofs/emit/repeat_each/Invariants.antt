use lib.ListN.{replicate}
use Rattle.writer.specs.store.Text.{Written}
use Rattle.writer.proofs.emit.repeat_each.Given as goal

abbrev pub invariant-loop : goal.invariant-loop
invariant-loop g l = Written l.initial.out l.at (replicate l.counter l.x) l.out l.p
