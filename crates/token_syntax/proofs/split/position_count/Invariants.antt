use Prim.Native.Nat.{◌+◌, ◌≤◌}
use mathlib.Core.Path.{◌≡◌}
use lib.ListN.{length}
use Rattle.token_syntax.specs.split.Parts.{list_parts, parts_at}
use Rattle.token_syntax.proofs.split.position_count.Given as goal

abbrev pub invariant-loop-t : goal.invariant-loop-t
invariant-loop-t l = (length (list_parts l.s) ≡ l.n + length (parts_at 44 l.t)) × (l.n + length l.t ≤ length l.s)

abbrev pub decreases-loop-t : goal.decreases-loop-t
decreases-loop-t l = length l.t
