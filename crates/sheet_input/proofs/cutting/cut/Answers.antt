use borrow.Author.Rules.{rules}
use native.Mathlib.Omega.{arith}
use Rattle.sheet_input.proofs.cutting.Laws.{cut-start, cut-last, cut-more}
use Rattle.sheet_input.proofs.cutting.cut.Goals as goal

pub loop-t-init : goal.loop-t-init
loop-t-init c = (search cut-start, omega arith, omega arith, search rules)

pub returns-then-end-t : goal.returns-then-end-t
returns-then-end-t c = search cut-last

pub loop-t-preserved : goal.loop-t-preserved
loop-t-preserved c = (search cut-more, omega arith, omega arith, search rules)
