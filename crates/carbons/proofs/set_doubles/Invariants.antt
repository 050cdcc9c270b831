use Rattle.carbons.specs.ByCarbon.{SetWhere, double_at}
use Rattle.carbons.proofs.Fronts.{Behind}
use Rattle.carbons.proofs.set_doubles.Given as goal

abbrev pub invariant-loop-bond : goal.invariant-loop-bond
invariant-loop-bond l = Behind (λ passed. SetWhere (double_at passed) 61 l.initial.bonds l.bonds) l.doubles l.bond-iterator.iter.rest.now
