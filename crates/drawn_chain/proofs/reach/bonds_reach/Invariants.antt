use mathlib.Core.Path.{◌≡◌}
use mathlib.Core.List.{map}
use lib.ListN.{drop}
use Rattle.chain_rules.specs.chain.Lists.{largest}
use Rattle.drawn_chain.specs.reach.Reach.{bond_reach}
use Rattle.drawn_chain.proofs.reach.bonds_reach.Given as goal

abbrev pub invariant-loop-bond : goal.invariant-loop-bond
invariant-loop-bond l = largest l.m (map bond_reach l.bonds) ≡ largest l.reach (map bond_reach (drop l.bond-index l.bonds))
