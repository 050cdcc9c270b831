use native.Mathlib.Omega.{arith}
use Rattle.sheet_frame.proofs.beginning.Laws.{header-rows, header-over}
use Rattle.sheet_frame.proofs.beginning.answer_header.Goals as goal

pub returns-in-Some : goal.returns-in-Some
returns-in-Some c = search (header-rows, arith)

pub returns-in-None : goal.returns-in-None
returns-in-None c = search header-over
