use Rattle.carbons.specs.ByCarbon.{SetWhere, bridge_at}
use Rattle.carbons.proofs.Fronts.{Behind}
use Rattle.carbons.proofs.set_bridges.Given as goal

abbrev pub invariant-loop-ring : goal.invariant-loop-ring
invariant-loop-ring l = Behind (λ passed. SetWhere (bridge_at passed) 79 l.initial.bonds l.bonds) l.rings l.ring-iterator.iter.rest.now
