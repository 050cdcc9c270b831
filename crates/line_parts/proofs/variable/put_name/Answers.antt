use native.Mathlib.Omega.{arith}
use Rattle.line_parts.proofs.variable.Laws.{name-one, name-two}
use Rattle.line_parts.proofs.variable.put_name.Goals as goal

pub returns-then-w-lt26 : goal.returns-then-w-lt26
returns-then-w-lt26 c = search (name-one, arith)

pub returns : goal.returns
returns c = search (name-two, arith)
