use native.Mathlib.Omega.{arith}
use Rattle.line_parts.proofs.shown.Laws.{part-text}
use Rattle.line_parts.proofs.sums.put_variable.Goals as goal

pub returns : goal.returns
returns c = search (part-text, arith)
