use mathlib.Core.Path.{◌≡◌}
use Rattle.placement.proofs.chain_strand.Laws.{RiseLeft}
use Rattle.placement.proofs.chain_strand.groups_rise.Given as goal

abbrev pub invariant-loop-group : goal.invariant-loop-group
invariant-loop-group l = (l.last ≡ l.carbon) × RiseLeft l.first l.carbon l.groups l.k l.group-index
