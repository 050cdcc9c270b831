use Rattle.chain_record.proofs.parsed.Laws.{ring-grows-in}
use Rattle.chain_record.proofs.parsed.push_ring.Goals as goal

pub returns : goal.returns
returns c = search (ring-grows-in, c.in-Some.ensures)
