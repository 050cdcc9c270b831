use Rattle.carbons.proofs.BondLaws.{MarksLeft}
use Rattle.carbons.proofs.mark_bonds.Given as goal

abbrev pub invariant-loop-p : goal.invariant-loop-p
invariant-loop-p l = MarksLeft l.carbon l.geoms l.initial.bonds l.bonds l.p
