use Rattle.token_reader.proofs.seats.Laws.{seats-none, seats-short, seats-row, seats-found, first-low, marked-room}
use borrow.Author.Rules.{rules}
use Rattle.token_reader.proofs.seats.placeholder_positions.Goals as goal

pub returns-then-missing-eq0 : goal.returns-then-missing-eq0
returns-then-missing-eq0 c = search seats-none

pub returns-then-carbon-lt4 : goal.returns-then-carbon-lt4
returns-then-carbon-lt4 c = search seats-short

pub returns-then-seats_in_row : goal.returns-then-seats_in_row
returns-then-seats_in_row c = search seats-row

pub take_seats-requires : goal.take_seats-requires
take_seats-requires c = (search first-low, search rules, search rules, search marked-room)

pub returns : goal.returns
returns c = search seats-found
