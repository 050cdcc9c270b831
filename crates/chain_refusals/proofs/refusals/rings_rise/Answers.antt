use mathlib.Core.Path.{refl}
use Rattle.chain_refusals.proofs.refusals.Rising.{only-false, rings-next, rings-end}
use Rattle.chain_refusals.proofs.refusals.rings_rise.Goals as goal

pub loop-ring-init : goal.loop-ring-init
loop-ring-init c = refl

pub returns-then-not-ring_past : goal.returns-then-not-ring_past
returns-then-not-ring_past c = search only-false

pub loop-ring-preserved : goal.loop-ring-preserved
loop-ring-preserved c = search rings-next

pub returns : goal.returns
returns c = search rings-end
