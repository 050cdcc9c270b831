use Rattle.chain_record.proofs.parsed.Laws.{group-grows-in}
use Rattle.chain_record.proofs.parsed.push_group.Goals as goal

pub returns : goal.returns
returns c = search (group-grows-in, c.in-Some.ensures)
