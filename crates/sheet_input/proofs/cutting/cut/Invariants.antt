use Prim.Native.Nat.{◌+◌, ◌≤◌}
use mathlib.Core.Path.{◌≡◌}
use lib.ListN.{length}
use Rattle.sheet_input.proofs.cutting.Laws.{Cutting}
use Rattle.sheet_input.proofs.cutting.cut.Given as goal

abbrev pub invariant-loop-t : goal.invariant-loop-t
invariant-loop-t l = Cutting l.row l.starts l.t l.from l.n × (l.from + length l.t ≡ length l.row) × (l.n + length l.t ≤ length l.row) × (length l.starts ≡ length l.initial.starts)

abbrev pub decreases-loop-t : goal.decreases-loop-t
decreases-loop-t l = length l.t
