use native.Mathlib.Omega.{arith}
use Rattle.batch.proofs.LineLaws.{last_none, last-header, last_some}
use Rattle.batch.proofs.answer_last.Goals as goal

pub returns-then-text-ne0 : goal.returns-then-text-ne0
returns-then-text-ne0 c = search last_some

pub returns-in-Header : goal.returns-in-Header
returns-in-Header c = search last-header

pub returns-in_default : goal.returns-in_default
returns-in_default c = search (last_none, arith)
