use Rattle.token_reader.proofs.token.Rings.{sized-read}
use Rattle.token_reader.proofs.token.read_size.Goals as goal

pub returns : goal.returns
returns c = search (sized-read, c.in_ok-size.ensures)
