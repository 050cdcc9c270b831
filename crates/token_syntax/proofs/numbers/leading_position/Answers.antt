use Rattle.token_syntax.proofs.numbers.Laws.{position-blank, position-number}
use Rattle.token_syntax.proofs.numbers.leading_position.Goals as goal

pub returns-then-s-eq0 : goal.returns-then-s-eq0
returns-then-s-eq0 c = search position-blank

pub returns : goal.returns
returns c = search position-number
