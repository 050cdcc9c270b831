use mathlib.Core.Path.{◌≡◌}
use lib.ListN.{drop}
use Rattle.carbons.specs.ByCarbon.{rises_from}
use Rattle.carbons.proofs.rises.Given as goal

abbrev pub invariant-loop-bond : goal.invariant-loop-bond
invariant-loop-bond l = rises_from 0 l.doubles ≡ rises_from l.last (drop l.bond-index l.doubles)
