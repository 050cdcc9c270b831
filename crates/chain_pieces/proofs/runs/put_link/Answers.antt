use native.Mathlib.Omega.{arith}
use lib.ListN.{length-set}
use Rattle.chain_pieces.proofs.runs.Laws.{link-stored}
use Rattle.chain_pieces.proofs.runs.put_link.Goals as goal

pub bounds-out-p : goal.bounds-out-p
bounds-out-p c = simp length-set (omega arith)

pub returns : goal.returns
returns c = search (link-stored, arith)
