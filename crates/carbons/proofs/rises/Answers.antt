use mathlib.Core.Path.{refl}
use Rattle.carbons.proofs.BondLaws.{rises-more, rises-not, rises-end}
use Rattle.carbons.proofs.rises.Goals as goal

pub loop-bond-init : goal.loop-bond-init
loop-bond-init c = refl

pub returns-then-bond-last : goal.returns-then-bond-last
returns-then-bond-last c = search rises-not

pub loop-bond-preserved : goal.loop-bond-preserved
loop-bond-preserved c = search rises-more

pub returns : goal.returns
returns c = search rises-end
