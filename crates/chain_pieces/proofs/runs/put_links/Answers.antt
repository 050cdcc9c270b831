use native.Mathlib.Omega.{arith}
use Rattle.chain_pieces.proofs.runs.Laws.{links-none}
use Rattle.chain_pieces.proofs.runs.put_links.Goals as goal

pub returns-then-at-out : goal.returns-then-at-out
returns-then-at-out c = search (links-none, arith)

pub returns : goal.returns
returns c = search (links-none, arith)
