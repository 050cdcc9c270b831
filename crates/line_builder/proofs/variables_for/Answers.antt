use Rattle.line_builder.proofs.Pushes.{variables-none, variables-some}
use Rattle.line_builder.proofs.variables_for.Goals as goal

pub returns-then-n-eq0 : goal.returns-then-n-eq0
returns-then-n-eq0 c = search variables-none

pub returns : goal.returns
returns c = search variables-some
