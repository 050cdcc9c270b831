use Rattle.std.proofs.Common.{length, ◌-◌}
use Rattle.tail_grammar.proofs.tail.Scan.{InRun}
use Rattle.tail_grammar.specs.ringdigits.Digits.{rings_of}
use Rattle.tail_grammar.proofs.tail.+read_run.Given as goal

abbrev pub decreases-read_run : goal.decreases-read_run
decreases-read_run l = l.depth

abbrev pub invariant-loop-r : goal.invariant-loop-r
invariant-loop-r l = InRun l.s l.at l.depth (rings_of l.initial.r.atoms l.initial.opened l.initial.joined) l.r l.opened l.joined

abbrev pub decreases-loop-r : goal.decreases-loop-r
decreases-loop-r l = length l.s - l.r.next
