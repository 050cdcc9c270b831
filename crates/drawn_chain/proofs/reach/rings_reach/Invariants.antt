use mathlib.Core.Path.{◌≡◌}
use mathlib.Core.List.{map}
use lib.ListN.{drop}
use Rattle.chain_rules.specs.chain.Lists.{largest}
use Rattle.drawn_chain.specs.reach.Reach.{ring_reach}
use Rattle.drawn_chain.proofs.reach.rings_reach.Given as goal

abbrev pub invariant-loop-ring : goal.invariant-loop-ring
invariant-loop-ring l = largest l.m (map ring_reach l.rings) ≡ largest l.reach (map ring_reach (drop l.ring-index l.rings))
