use Prim.Native.Nat.{◌+◌, ◌*◌, ◌-◌, ◌≤◌}
use mathlib.Core.Path.{◌≡◌}
use mathlib.Core.List.{map}
use lib.ListN.{length, take}
use Rattle.writer.specs.emit.Text.{Written, decimal}
use Rattle.reading_rules.specs.reading.Parting.{joined}
use Rattle.sheet_output.proofs.carbon_lists.store_each.Given as goal

abbrev pub invariant-loop-i : goal.invariant-loop-i
invariant-loop-i l = (l.i ≤ length l.indices) × (l.p + 6 * (length l.indices - l.i) ≤ length l.initial.out) × (length l.out ≡ length l.initial.out) × Written l.initial.out l.at (joined 46 (map decimal (take l.i l.indices))) l.out l.p

abbrev pub decreases-loop-i : goal.decreases-loop-i
decreases-loop-i l = length l.indices - l.i
