use Rattle.token_syntax.proofs.brackets.Laws.{closing-start, closing_end, closing-more, closing-none}
use native.Mathlib.Omega.{arith}
use Rattle.token_syntax.proofs.brackets.before_closing.Goals as goal

pub loop-n-init : goal.loop-n-init
loop-n-init c = (search closing-start, omega arith)

pub returns-then-s-n-ne93 : goal.returns-then-s-n-ne93
returns-then-s-n-ne93 c = search closing_end

pub loop-n-preserved : goal.loop-n-preserved
loop-n-preserved c = (search closing-more, omega arith)

pub returns : goal.returns
returns c = search closing-none
