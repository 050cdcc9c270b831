use Rattle.token_segments.proofs.ring.Laws.{list-many, list-refused, list_read}
use Rattle.token_segments.proofs.ring.parse_ring_list.Goals as goal

pub returns-then-n-position_count : goal.returns-then-n-position_count
returns-then-n-position_count c = search list-many

pub returns-in_err-more : goal.returns-in_err-more
returns-in_err-more c = search (list-refused, c.in_err-more.was, c.from_residual.ensures)

pub returns : goal.returns
returns c = search (list_read, c.in_ok-more.was)
