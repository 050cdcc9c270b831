use Rattle.carbons.proofs.BondLaws.{RisingLeft}
use Rattle.carbons.proofs.mark_rising.Given as goal

abbrev pub invariant-loop-bond : goal.invariant-loop-bond
invariant-loop-bond l = RisingLeft l.carbon l.doubles l.initial.bonds l.bonds l.bond-index
