use native.Mathlib.Omega.{arith}
use Rattle.chain_pieces.proofs.branches.Laws.{group-written}
use Rattle.chain_pieces.proofs.branches.put_group.Goals as goal

pub returns : goal.returns
returns c = search (group-written, arith)
