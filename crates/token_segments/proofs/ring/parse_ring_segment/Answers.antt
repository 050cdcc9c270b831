use Rattle.token_segments.proofs.ring.Laws.{start-unreadable, end-unreadable, ring-segment-is}
use Rattle.token_segments.proofs.ring.parse_ring_segment.Goals as goal

pub returns-in_default : goal.returns-in_default
returns-in_default c = search start-unreadable

pub returns-in_default-trimmed_number : goal.returns-in_default-trimmed_number
returns-in_default-trimmed_number c = search end-unreadable

pub returns : goal.returns
returns c = search ring-segment-is
