use Rattle.token_reader.proofs.token.Rings.{ring-one}
use Rattle.token_reader.proofs.token.first_ring.Goals as goal

pub returns : goal.returns
returns c = search (ring-one, c.in_ok-ring.ensures)
