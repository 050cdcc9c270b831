use native.Mathlib.Omega.{arith}
use Rattle.batch.proofs.LineLaws.{line-header, line_row, line-over}
use Rattle.batch.proofs.answer_line.Goals as goal

pub returns-in-Header : goal.returns-in-Header
returns-in-Header c = search line-header

pub returns-in-Rows : goal.returns-in-Rows
returns-in-Rows c = search line_row

pub returns-in-Over : goal.returns-in-Over
returns-in-Over c = search (line-over, arith)
