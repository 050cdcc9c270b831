use Rattle.carbons.specs.ByCarbon.{Added}
use Rattle.carbons.proofs.Fronts.{Behind}
use Rattle.carbons.proofs.add_groups.Given as goal

abbrev pub invariant-loop-group : goal.invariant-loop-group
invariant-loop-group l = Behind (λ passed. Added passed l.initial.busy l.busy) l.groups l.group-iterator.iter.rest.now
