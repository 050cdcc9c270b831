use native.Mathlib.Omega.{arith}
use Rattle.line_parts.proofs.shown.Chained.{one-shown}
use Rattle.line_parts.proofs.marks.put_mark.Goals as goal

pub returns : goal.returns
returns c = search (one-shown, arith)
