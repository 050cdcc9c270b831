use Rattle.token_segments.proofs.segment.Laws.{segment-empty, segment-refused, segment-counted}
use Rattle.token_segments.proofs.segment.parse_segment.Goals as goal

pub returns-then-text-eq0 : goal.returns-then-text-eq0
returns-then-text-eq0 c = search segment-empty

pub returns-in_err-more : goal.returns-in_err-more
returns-in_err-more c = search (segment-refused, c.in_err-more.was, c.from_residual.ensures)

pub returns : goal.returns
returns c = search (segment-counted, c.in_ok-more.was)
