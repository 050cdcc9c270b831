use Rattle.chain_refusals.proofs.refusals.Rising.{past-early, past-epoxide, past-carbocycle}
use Rattle.chain_refusals.proofs.refusals.ring_past.Goals as goal

pub returns-in-Epoxide : goal.returns-in-Epoxide
returns-in-Epoxide c = search past-epoxide

pub returns-then-least-start : goal.returns-then-least-start
returns-then-least-start c = search past-carbocycle

pub returns-else-least-start : goal.returns-else-least-start
returns-else-least-start c = search past-early
