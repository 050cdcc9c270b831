use Rattle.chain_lists.proofs.indices.IndexLaws.{part-whole, part_cut, part_none}
use Rattle.chain_lists.proofs.indices.put_part.Goals as goal

pub returns-then-end-n : goal.returns-then-end-n
returns-then-end-n c = search part-whole

pub returns-then-from-n : goal.returns-then-from-n
returns-then-from-n c = search part_cut

pub returns : goal.returns
returns c = search part_none
