use mathlib.Core.Path.{refl}
use Rattle.drawn_chain.proofs.drawable.Turns.{reach_next, reach_end}
use Rattle.drawn_chain.proofs.reach.rings_reach.Goals as goal

pub loop-ring-init : goal.loop-ring-init
loop-ring-init c = refl

pub loop-ring-preserved : goal.loop-ring-preserved
loop-ring-preserved c = search reach_next

pub returns : goal.returns
returns c = search reach_end
