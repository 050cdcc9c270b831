use native.Mathlib.Omega.{arith}
use Rattle.chain_pieces.proofs.runs.Carbons.{carbons-twice, carbons-shared}
use Rattle.chain_pieces.proofs.runs.put_carbons.Goals as goal

pub returns-then-n-lt8 : goal.returns-then-n-lt8
returns-then-n-lt8 c = search (carbons-shared, arith)

pub returns-then-n-lt16 : goal.returns-then-n-lt16
returns-then-n-lt16 c = search (carbons-shared, arith)

pub returns : goal.returns
returns c = search (carbons-twice, arith)
