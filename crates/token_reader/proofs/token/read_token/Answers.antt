use Rattle.token_reader.proofs.token.Laws.{token-long}
use Rattle.token_reader.proofs.token.Short.{token-plain}
use Rattle.token_reader.proofs.token.read_token.Goals as goal

pub returns-then-s-gt-MAX_BYTES : goal.returns-then-s-gt-MAX_BYTES
returns-then-s-gt-MAX_BYTES c = search token-long

pub returns-then-from-s : goal.returns-then-from-s
returns-then-from-s c = search (token-plain, c.in-Some.ensures)
