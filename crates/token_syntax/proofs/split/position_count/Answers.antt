use Rattle.token_syntax.proofs.split.Laws.{count_none, count-start, count-last, count-more}
use native.Mathlib.Omega.{arith}
use Rattle.token_syntax.proofs.split.position_count.Goals as goal

pub returns-then-s-eq0 : goal.returns-then-s-eq0
returns-then-s-eq0 c = search count_none

pub loop-t-init : goal.loop-t-init
loop-t-init c = (search count-start, omega arith)

pub returns-then-k-t : goal.returns-then-k-t
returns-then-k-t c = search count-last

pub loop-t-preserved : goal.loop-t-preserved
loop-t-preserved c = (search count-more, omega arith)
