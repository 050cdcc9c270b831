use mathlib.Core.Path.{◌≡◌}
use mathlib.Core.List.{map}
use lib.ListN.{drop}
use Rattle.chain_rules.specs.chain.Lists.{largest}
use Rattle.drawn_chain.specs.drawable.Drawn.{group_pin}
use Rattle.drawn_chain.proofs.reach.groups_reach.Given as goal

abbrev pub invariant-loop-group : goal.invariant-loop-group
invariant-loop-group l = largest l.m (map group_pin l.groups) ≡ largest l.reach (map group_pin (drop l.group-index l.groups))
