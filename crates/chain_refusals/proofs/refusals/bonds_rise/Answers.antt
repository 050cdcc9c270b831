use Rattle.chain_refusals.proofs.refusals.Rising.{only-false, rise-first, rise-next, rise-end}
use Rattle.chain_refusals.proofs.refusals.bonds_rise.Goals as goal

pub loop-bond-init : goal.loop-bond-init
loop-bond-init c = search rise-first

pub returns-then-bond-last : goal.returns-then-bond-last
returns-then-bond-last c = search only-false

pub loop-bond-preserved : goal.loop-bond-preserved
loop-bond-preserved c = search rise-next

pub returns : goal.returns
returns c = search rise-end
