use mathlib.Core.Path.{refl}
use Rattle.drawn_chain.proofs.drawable.Turns.{reach_next, reach_end}
use Rattle.drawn_chain.proofs.reach.groups_reach.Goals as goal

pub loop-group-init : goal.loop-group-init
loop-group-init c = refl

pub loop-group-preserved : goal.loop-group-preserved
loop-group-preserved c = search reach_next

pub returns : goal.returns
returns c = search reach_end
