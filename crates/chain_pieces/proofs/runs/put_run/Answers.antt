use native.Mathlib.Omega.{arith}
use Rattle.chain_pieces.proofs.runs.Laws.{run-done}
use Rattle.chain_pieces.proofs.runs.put_run.Goals as goal

pub returns : goal.returns
returns c = search (run-done, arith)
