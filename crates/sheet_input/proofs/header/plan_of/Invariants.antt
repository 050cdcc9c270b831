use Prim.Native.Nat.{◌+◌, ◌≤◌}
use mathlib.Core.Path.{◌≡◌}
use lib.ListN.{length}
use Rattle.sheet_input.specs.header.Header.{cells_of, plan_of, plan_from}
use Rattle.sheet_input.proofs.header.plan_of.Given as goal

abbrev pub invariant-loop-column : goal.invariant-loop-column
invariant-loop-column l = (plan_of l.header ≡ plan_from l.n l.places (cells_of l.t)) × (length l.places ≡ 7) × (l.n + length l.t ≤ length l.header)

abbrev pub decreases-loop-column : goal.decreases-loop-column
decreases-loop-column l = length l.t
