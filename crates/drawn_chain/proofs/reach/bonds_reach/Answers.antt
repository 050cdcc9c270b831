use mathlib.Core.Path.{refl}
use Rattle.drawn_chain.proofs.drawable.Turns.{reach_next, reach_end}
use Rattle.drawn_chain.proofs.reach.bonds_reach.Goals as goal

pub loop-bond-init : goal.loop-bond-init
loop-bond-init c = refl

pub loop-bond-preserved : goal.loop-bond-preserved
loop-bond-preserved c = search reach_next

pub returns : goal.returns
returns c = search reach_end
