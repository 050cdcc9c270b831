use mathlib.Core.Path.{refl}
use Rattle.token_reader.proofs.token.Laws.{printable-more, printable-all}
use Rattle.token_reader.proofs.token.all_printable.Goals as goal

pub loop-t-init : goal.loop-t-init
loop-t-init c = refl

pub loop-t-preserved : goal.loop-t-preserved
loop-t-preserved c = search printable-more

pub returns : goal.returns
returns c = search printable-all
