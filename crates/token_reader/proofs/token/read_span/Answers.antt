use Rattle.token_reader.proofs.token.Rings.{span-read}
use Rattle.token_reader.proofs.token.read_span.Goals as goal

pub returns : goal.returns
returns c = search (span-read, c.in_ok-end.ensures, c.in_ok-sized.ensures)
