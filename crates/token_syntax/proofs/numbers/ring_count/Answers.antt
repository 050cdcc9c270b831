use Rattle.token_syntax.proofs.numbers.Laws.{count-blank, count-number}
use Rattle.token_syntax.proofs.numbers.ring_count.Goals as goal

pub returns-then-t-eq0 : goal.returns-then-t-eq0
returns-then-t-eq0 c = search count-blank

pub returns : goal.returns
returns c = search count-number
