use Rattle.token_syntax.proofs.padded.Laws.{digit-is, short_none, short-one, short-two}
use Rattle.token_syntax.proofs.padded.short_number.Goals as goal

pub returns-then-s-eq0 : goal.returns-then-s-eq0
returns-then-s-eq0 c = search short_none

pub returns-then-not-is_digit : goal.returns-then-not-is_digit
returns-then-not-is_digit c = search short_none

pub figure-first-requires : goal.figure-first-requires
figure-first-requires c = digit-is _ _ c.is_digit.ensures c.if-not-is_digit.false-raw

pub returns-then-s-eq1 : goal.returns-then-s-eq1
returns-then-s-eq1 c = search short-one

pub returns-then-s-ne2 : goal.returns-then-s-ne2
returns-then-s-ne2 c = search short_none

pub returns-then-not-is_digit-2 : goal.returns-then-not-is_digit-2
returns-then-not-is_digit-2 c = search short_none

pub figure-one-requires : goal.figure-one-requires
figure-one-requires c = digit-is _ _ c.is_digit-2.ensures c.if-not-is_digit-2.false-raw

pub returns : goal.returns
returns c = search short-two
