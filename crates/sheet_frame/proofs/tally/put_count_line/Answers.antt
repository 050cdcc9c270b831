use Rattle.sheet_frame.proofs.tally.Laws.{count_none, count-line}
use native.Mathlib.Omega.{arith}
use Rattle.sheet_frame.proofs.tally.put_count_line.Goals as goal

pub returns-then-times-eq0 : goal.returns-then-times-eq0
returns-then-times-eq0 c = search (count_none, arith)

pub returns : goal.returns
returns c = search (count-line, arith)
