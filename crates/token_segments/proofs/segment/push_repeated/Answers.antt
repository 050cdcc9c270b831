use Rattle.token_segments.proofs.segment.Laws.{many-before, many-over, many-fit}
use Rattle.token_segments.proofs.segment.push_repeated.Goals as goal

pub returns-then-count-gt-MAX_GROUPS : goal.returns-then-count-gt-MAX_GROUPS
returns-then-count-gt-MAX_GROUPS c = search many-before

pub returns-then-count-times : goal.returns-then-count-times
returns-then-count-times c = search many-over

pub returns : goal.returns
returns c = search many-fit
