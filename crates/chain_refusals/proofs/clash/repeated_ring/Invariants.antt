use mathlib.Core.Path.{◌≡◌}
use lib.ListN.{length}
use Rattle.chain_rules.specs.chain.Lists.{any_two}
use Rattle.chain_rules.specs.chain.Refusals.{same_ring}
use Rattle.chain_refusals.proofs.clash.repeated_ring.Given as goal

abbrev pub invariant-loop-ring : goal.invariant-loop-ring
invariant-loop-ring l = any_two same_ring l.rings ≡ any_two same_ring l.left

abbrev pub decreases-loop-ring : goal.decreases-loop-ring
decreases-loop-ring l = length l.left
