use Rattle.token_reader.proofs.token.Rings.{bracket-read}
use Rattle.token_reader.proofs.token.read_bracket.Goals as goal

pub returns : goal.returns
returns c = search (bracket-read, c.in_ok-start.ensures, c.in_ok-span.ensures)
