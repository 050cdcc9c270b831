use borrow.Author.Rules.{rules}
use native.Mathlib.Omega.{arith}
use mathlib.Core.Path.{refl}
use Rattle.batch.proofs.LineLaws.{turn-start, turn_more, turn_last, turn-full}
use Rattle.batch.proofs.answer_each.Goals as goal

pub loop-p-init : goal.loop-p-init
loop-p-init c = (search (turn-start, arith), omega arith, omega arith, refl, refl)

pub returns-then-n-t : goal.returns-then-n-t
returns-then-n-t c = search turn_last

pub loop-p-preserved : goal.loop-p-preserved
loop-p-preserved c = (search turn_more, omega arith, search rules, search rules, search rules)

pub returns : goal.returns
returns c = search turn-full
