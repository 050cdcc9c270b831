use native.Mathlib.Omega.{arith}
use Rattle.chain_pieces.proofs.runs.Carbons.{carbons-eight}
use Rattle.chain_pieces.proofs.runs.put_eight.Goals as goal

pub returns : goal.returns
returns c = search (carbons-eight, arith)
