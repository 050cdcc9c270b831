use native.Mathlib.Omega.{arith}
use Rattle.line_parts.proofs.marks.Laws.{marks-none, marks-last}
use Rattle.line_parts.proofs.marks.put_marks.Goals as goal

pub returns-then-n-eq0 : goal.returns-then-n-eq0
returns-then-n-eq0 c = search (marks-none, arith)

pub returns : goal.returns
returns c = search (marks-last, arith)
