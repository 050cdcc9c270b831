use native.Mathlib.Omega.{arith}
use Rattle.chain_pieces.proofs.runs.Carbons.{carbons-sixteen}
use Rattle.chain_pieces.proofs.runs.put_sixteen.Goals as goal

pub returns : goal.returns
returns c = search (carbons-sixteen, arith)
