use Rattle.token_syntax.proofs.numbers.Laws.{one-blank, one_number}
use Rattle.token_syntax.proofs.numbers.number_or_one.Goals as goal

pub returns-then-s-eq0 : goal.returns-then-s-eq0
returns-then-s-eq0 c = search one-blank

pub returns : goal.returns
returns c = search one_number
