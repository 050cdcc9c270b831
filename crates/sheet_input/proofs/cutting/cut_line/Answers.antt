use borrow.Author.Rules.{rules}
use native.Mathlib.Omega.{arith}
use Rattle.sheet_input.proofs.cutting.LineLaws.{along-start, along-next, along-lf, along-end}
use Rattle.sheet_input.proofs.cutting.cut_line.Goals as goal

pub loop-i-init : goal.loop-i-init
loop-i-init c = (search along-start, omega arith, omega arith, search rules)

pub returns-then-b-eq10 : goal.returns-then-b-eq10
returns-then-b-eq10 c = search along-lf

pub loop-i-preserved : goal.loop-i-preserved
loop-i-preserved c = (search along-next, omega arith, omega arith, search rules)

pub returns : goal.returns
returns c = search along-end
