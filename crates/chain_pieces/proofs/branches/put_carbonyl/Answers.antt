use native.Mathlib.Omega.{arith}
use Rattle.chain_pieces.proofs.branches.Laws.{carbonyl-there, carbonyl-later, carbonyl-no}
use Rattle.chain_pieces.proofs.branches.put_carbonyl.Goals as goal

pub returns-then-k-eq1 : goal.returns-then-k-eq1
returns-then-k-eq1 c = search carbonyl-there

pub returns-then-acyl : goal.returns-then-acyl
returns-then-acyl c = search (carbonyl-later, arith)

pub returns : goal.returns
returns c = search (carbonyl-no, arith)
