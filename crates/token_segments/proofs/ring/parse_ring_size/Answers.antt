use Rattle.token_segments.proofs.ring.Laws.{size-unreadable, size-wrong, size-sized}
use Rattle.token_segments.proofs.ring.parse_ring_size.Goals as goal

pub returns-in_default : goal.returns-in_default
returns-in_default c = search size-unreadable

pub returns-in_default-ring_of : goal.returns-in_default-ring_of
returns-in_default-ring_of c = search (size-wrong, c.in_default-ring_of.not-Cycle)

pub returns : goal.returns
returns c = search size-sized
