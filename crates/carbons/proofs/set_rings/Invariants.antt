use Rattle.carbons.specs.ByCarbon.{SetWhere, ring_on}
use Rattle.carbons.proofs.Fronts.{Behind}
use Rattle.carbons.proofs.set_rings.Given as goal

abbrev pub invariant-loop-ring : goal.invariant-loop-ring
invariant-loop-ring l = Behind (λ passed. SetWhere (ring_on passed) 1 l.initial.busy l.busy) l.rings l.ring-iterator.iter.rest.now
