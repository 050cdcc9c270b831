use Rattle.token_reader.proofs.token.Laws.{token-bytes, token-read}
use Rattle.token_reader.proofs.token.read_any.Goals as goal

pub returns-then-not-all_printable : goal.returns-then-not-all_printable
returns-then-not-all_printable c = search token-bytes

pub returns : goal.returns
returns c = search token-read
