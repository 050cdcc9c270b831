use mathlib.Core.Path.{◌≡◌}
use lib.ListN.{length}
use Rattle.chain_rules.specs.chain.Lists.{any_two}
use Rattle.chain_rules.specs.chain.Refusals.{same_bond}
use Rattle.chain_refusals.proofs.clash.repeated_bond.Given as goal

abbrev pub invariant-loop-bond : goal.invariant-loop-bond
invariant-loop-bond l = any_two same_bond l.bonds ≡ any_two same_bond l.left

abbrev pub decreases-loop-bond : goal.decreases-loop-bond
decreases-loop-bond l = length l.left
