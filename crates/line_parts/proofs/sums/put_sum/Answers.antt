use native.Mathlib.Omega.{arith}
use Rattle.line_parts.proofs.sums.Laws.{sums_none, sums-one}
use Rattle.line_parts.proofs.sums.put_sum.Goals as goal

pub returns-then-n-eq0 : goal.returns-then-n-eq0
returns-then-n-eq0 c = search (sums_none, arith)

pub returns : goal.returns
returns c = search (sums-one, arith)
