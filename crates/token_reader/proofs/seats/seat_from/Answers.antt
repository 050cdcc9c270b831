use Rattle.token_reader.proofs.seats.Laws.{start-past, found-above, found_below}
use Rattle.token_reader.proofs.seats.seat_from.Goals as goal

pub returns-then-carbon-start : goal.returns-then-carbon-start
returns-then-carbon-start c = search start-past

pub returns-in-Some : goal.returns-in-Some
returns-in-Some c = search (found-above, c.in-Some.ensures)

pub returns-in-None : goal.returns-in-None
returns-in-None c = search (found_below, c.in-None.ensures)
