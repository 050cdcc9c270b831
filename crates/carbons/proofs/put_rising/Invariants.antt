use Prim.Native.Nat.{◌<◌}
use lib.ListN.{length}
use Rattle.carbons.proofs.Placing.{PassLeft}
use Rattle.carbons.proofs.put_rising.Given as goal

abbrev pub invariant-loop-bond : goal.invariant-loop-bond
invariant-loop-bond l = (l.carbon < length l.bonds) × PassLeft l.carbon l.doubles l.initial.bonds l.bonds l.last l.bond-index
