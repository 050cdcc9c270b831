use native.Mathlib.Omega.{arith}
use Rattle.chain_pieces.proofs.runs.Laws.{four-plain, four-linked}
use Rattle.chain_pieces.proofs.runs.put_four.Goals as goal

pub returns-then-word-eq0 : goal.returns-then-word-eq0
returns-then-word-eq0 c = search four-plain

pub returns : goal.returns
returns c = search (four-linked, arith)
