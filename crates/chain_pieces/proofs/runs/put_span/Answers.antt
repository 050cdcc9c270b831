use native.Mathlib.Omega.{arith}
use Rattle.chain_pieces.proofs.runs.Carbons.{plain-links}
use Rattle.chain_pieces.proofs.runs.put_span.Goals as goal

pub returns-then-are_empty : goal.returns-then-are_empty
returns-then-are_empty c = search (plain-links, arith)
