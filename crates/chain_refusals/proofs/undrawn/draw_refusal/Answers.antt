use Rattle.chain_refusals.proofs.undrawn.Draw.{draw-carbonyl, draw-pin, draw-tail, draw-site, draw-fits}
use Rattle.chain_refusals.proofs.undrawn.draw_refusal.Goals as goal

pub returns-then-group_on_carbonyl : goal.returns-then-group_on_carbonyl
returns-then-group_on_carbonyl c = search draw-carbonyl

pub returns-then-pin_too_far : goal.returns-then-pin_too_far
returns-then-pin_too_far c = search draw-pin

pub returns-then-tail_too_short : goal.returns-then-tail_too_short
returns-then-tail_too_short c = search draw-tail

pub returns-then-no_site : goal.returns-then-no_site
returns-then-no_site c = search draw-site

pub returns : goal.returns
returns c = search draw-fits
