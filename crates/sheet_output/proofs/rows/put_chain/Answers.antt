use Rattle.sheet_output.proofs.rows.Laws.{chain-text}
use native.Mathlib.Omega.{arith}
use Rattle.sheet_output.proofs.rows.put_chain.Goals as goal

pub returns : goal.returns
returns c = search (chain-text, arith)
