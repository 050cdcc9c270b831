use Rattle.token_reader.proofs.token.Laws.{rest-none, rest-refused, rest_read}
use Rattle.token_reader.proofs.token.parse_rest.Goals as goal

pub returns-then-s-eq0 : goal.returns-then-s-eq0
returns-then-s-eq0 c = search rest-none

pub returns-in_err-more : goal.returns-in_err-more
returns-in_err-more c = search (rest-refused, c.in_err-more.was, c.from_residual.ensures)

pub returns : goal.returns
returns c = search (rest_read, c.in_ok-more.was)
