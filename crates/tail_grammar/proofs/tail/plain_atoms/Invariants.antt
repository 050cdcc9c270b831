use Prim.Native.Nat.{◌-◌, ◌≤◌}
use lib.ListN.{length}
use Rattle.tail_grammar.proofs.tail.Plain.{InPlain}
use Rattle.tail_grammar.proofs.tail.plain_atoms.Given as goal

abbrev pub invariant-loop-i : goal.invariant-loop-i
invariant-loop-i l = InPlain l.s l.i l.place l.depth l.atoms × (1 ≤ length l.s) × (length l.s ≤ 255)

abbrev pub decreases-loop-i : goal.decreases-loop-i
decreases-loop-i l = length l.s - l.i
