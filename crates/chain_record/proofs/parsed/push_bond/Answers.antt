use Rattle.chain_record.proofs.parsed.Laws.{bond-grows-in}
use Rattle.chain_record.proofs.parsed.push_bond.Goals as goal

pub returns : goal.returns
returns c = search (bond-grows-in, c.in-Some.ensures)
