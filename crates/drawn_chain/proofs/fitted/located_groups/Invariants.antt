use Prim.Native.Nat.{◌≤◌}
use mathlib.Core.Path.{◌≡◌}
use mathlib.Core.List.{◌++◌}
use lib.ListN.{length, drop}
use Rattle.chain_rules.specs.chain.Features.{located}
use Rattle.drawn_chain.specs.drawable.Drawn.{groups_in}
use Rattle.drawn_chain.proofs.fitted.located_groups.Given as goal

abbrev pub invariant-loop-group : goal.invariant-loop-group
invariant-loop-group l = (groups_in l.count l.groups ++ located (drop l.group-index l.group-items) ≡ located l.group-items) × (l.count ≤ l.group-index) × (length l.groups ≡ 18)
