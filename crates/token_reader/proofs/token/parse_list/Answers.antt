use Rattle.token_reader.proofs.token.Laws.{list-refused, list_read}
use Rattle.token_reader.proofs.token.parse_list.Goals as goal

pub returns-in_err-more : goal.returns-in_err-more
returns-in_err-more c = search (list-refused, c.in_err-more.was, c.from_residual.ensures)

pub returns : goal.returns
returns c = search (list_read, c.in_ok-more.was)
