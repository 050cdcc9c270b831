use Rattle.std.proofs.Common.{ℕ, ◌<◌}
use Rattle.class_lines.specs.longest.Covered.{SlightAt}
use Rattle.class_lines.proofs.longest.are_slight.Given as goal

abbrev pub invariant-loop-i : goal.invariant-loop-i
invariant-loop-i l = (k : ℕ) → k < l.i → SlightAt 30 l.count l.shapes k
