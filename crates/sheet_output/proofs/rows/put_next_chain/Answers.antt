use native.Mathlib.Omega.{arith}
use Rattle.line_parts.proofs.shown.Laws.{part-text}
use Rattle.sheet_output.proofs.rows.put_next_chain.Goals as goal

pub returns : goal.returns
returns c = search (part-text, arith)
