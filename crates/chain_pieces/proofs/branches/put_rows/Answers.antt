use Rattle.chain_pieces.proofs.branches.Laws.{rows-put}
use Rattle.chain_pieces.proofs.branches.put_rows.Goals as goal

pub returns : goal.returns
returns c = search rows-put
