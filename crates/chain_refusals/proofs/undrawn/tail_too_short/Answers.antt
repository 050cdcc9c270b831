use Rattle.chain_refusals.proofs.undrawn.Draw.{tail_none, tail-some}
use Rattle.chain_refusals.proofs.undrawn.tail_too_short.Goals as goal

pub returns-then-unlocated-eq0 : goal.returns-then-unlocated-eq0
returns-then-unlocated-eq0 c = search tail_none

pub returns : goal.returns
returns c = search tail-some
