use native.Mathlib.Omega.{arith}
use Rattle.line_parts.proofs.shown.Laws.{numbered-text}
use Rattle.line_parts.proofs.shown.put_numbered.Goals as goal

pub returns : goal.returns
returns c = search (numbered-text, arith)
