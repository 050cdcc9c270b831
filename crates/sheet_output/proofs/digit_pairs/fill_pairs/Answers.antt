use borrow.Author.Rules.{rules}
use native.Mathlib.Omega.{arith}
use Rattle.sheet_output.proofs.digit_pairs.Laws.{filled-start, filled_more, filled-all, filled-short}
use Rattle.sheet_output.proofs.digit_pairs.fill_pairs.Goals as goal

pub loop-n-init : goal.loop-n-init
loop-n-init c = (search filled-start, search rules)

pub returns-then-pairs-i : goal.returns-then-pairs-i
returns-then-pairs-i c = search filled-short

pub loop-n-preserved : goal.loop-n-preserved
loop-n-preserved c = (search (filled_more, arith), search rules)

pub returns : goal.returns
returns c = search filled-all
