use Rattle.token_features.proofs.features.Laws.{ring-at-zero, ring-at-off, ring-at-is}
use Rattle.token_features.proofs.features.ring_at.Goals as goal

pub returns-then-start-eq0 : goal.returns-then-start-eq0
returns-then-start-eq0 c = search ring-at-zero

pub returns-then-carbon-last : goal.returns-then-carbon-last
returns-then-carbon-last c = search ring-at-off

pub returns : goal.returns
returns c = search ring-at-is
