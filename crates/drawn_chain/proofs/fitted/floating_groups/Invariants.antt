use Prim.Native.Nat.{◌≤◌}
use mathlib.Core.Path.{◌≡◌}
use mathlib.Core.List.{◌++◌}
use lib.ListN.{length, drop}
use Rattle.chain_rules.specs.chain.Features.{unlocated}
use Rattle.drawn_chain.specs.drawable.Drawn.{groups_in}
use Rattle.drawn_chain.proofs.fitted.floating_groups.Given as goal

abbrev pub invariant-loop-group : goal.invariant-loop-group
invariant-loop-group l = (groups_in l.count l.groups ++ unlocated (drop l.group-index l.group-items) ≡ unlocated l.group-items) × (l.count ≤ l.group-index) × (length l.groups ≡ 18)
