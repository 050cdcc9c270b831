use Rattle.token_syntax.proofs.form.Laws.{parenthesis-none, parenthesis-last}
use Rattle.token_syntax.proofs.form.ends_in_parenthesis.Goals as goal

pub returns-then-s-eq0 : goal.returns-then-s-eq0
returns-then-s-eq0 c = search parenthesis-none

pub returns : goal.returns
returns c = search parenthesis-last
