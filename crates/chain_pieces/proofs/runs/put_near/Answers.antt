use native.Mathlib.Omega.{arith}
use Rattle.chain_pieces.proofs.runs.Laws.{near-three, near-end}
use Rattle.chain_pieces.proofs.runs.put_near.Goals as goal

pub returns-then-k-last : goal.returns-then-k-last
returns-then-k-last c = search (near-three, arith)

pub returns : goal.returns
returns c = search (near-end, arith)
