use native.Mathlib.Omega.{arith}
use Rattle.chain_pieces.proofs.branches.Laws.{float-written}
use Rattle.chain_pieces.proofs.branches.put_float.Goals as goal

pub returns : goal.returns
returns c = search (float-written, arith)
