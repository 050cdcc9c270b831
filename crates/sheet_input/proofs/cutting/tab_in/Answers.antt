use native.Mathlib.Omega.{arith}
use Rattle.sheet_input.proofs.cutting.LineLaws.{tab-one, tab-none}
use Rattle.sheet_input.proofs.cutting.tab_in.Goals as goal

pub returns-then-b-eq9 : goal.returns-then-b-eq9
returns-then-b-eq9 c = (search tab-one, omega arith)

pub returns-else-b-eq9 : goal.returns-else-b-eq9
returns-else-b-eq9 c = (search tab-none, omega arith)
