use Prim.Native.Nat.{◌+◌, ◌*◌, ◌-◌, ◌≤◌}
use mathlib.Core.Path.{◌≡◌}
use lib.ListN.{length}
use Rattle.sheet_output.specs.carbon_lists.Near.{Dotted}
use Rattle.sheet_output.proofs.carbon_lists.store_pairs.Given as goal

abbrev pub invariant-loop-i : goal.invariant-loop-i
invariant-loop-i l = Dotted l.indices l.from l.initial.out l.at l.out l.p l.i × (l.i ≤ length l.indices) × (l.from ≤ l.i) × (l.p + 6 * (length l.indices - l.i) ≤ length l.initial.out) × (length l.out ≡ length l.initial.out)

abbrev pub decreases-loop-i : goal.decreases-loop-i
decreases-loop-i l = length l.indices - l.i
