use Rattle.tail_grammar.proofs.ringdigits.Digits.{digit-opens, digit-closes}
use Rattle.tail_grammar.proofs.ringdigits.put_digit.Goals as goal

pub returns-then-a-eq0 : goal.returns-then-a-eq0
returns-then-a-eq0 c = search digit-opens

pub returns : goal.returns
returns c = search digit-closes
