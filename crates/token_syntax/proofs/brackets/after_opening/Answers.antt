use Rattle.token_syntax.proofs.brackets.Laws.{opening-end, opening-more, opening-none}
use mathlib.Core.Path.{refl}
use Rattle.token_syntax.proofs.brackets.after_opening.Goals as goal

pub loop-t-init : goal.loop-t-init
loop-t-init c = refl

pub returns-then-t-ne91 : goal.returns-then-t-ne91
returns-then-t-ne91 c = search opening-end

pub loop-t-preserved : goal.loop-t-preserved
loop-t-preserved c = search opening-more

pub returns : goal.returns
returns c = search opening-none
