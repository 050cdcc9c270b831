use Rattle.carbons.specs.ByCarbon.{Geometries}
use Rattle.carbons.proofs.Fronts.{Behind}
use Rattle.carbons.proofs.set_geometries.Given as goal

abbrev pub invariant-loop-bond : goal.invariant-loop-bond
invariant-loop-bond l = Behind (λ passed. Geometries passed l.geoms) l.doubles l.bond-iterator.iter.rest.now
