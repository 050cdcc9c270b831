use Rattle.tail_grammar.proofs.ringdigits.Scan.{digits-first, a-digit, digits-over, digit-clash, digit-on, digits-end}
use Rattle.tail_grammar.proofs.ringdigits.read_digits.Goals as goal

pub loop-i-init : goal.loop-i-init
loop-i-init c = search digits-first

pub returns-then-not-is_ring_digit : goal.returns-then-not-is_ring_digit
returns-then-not-is_ring_digit c = search digits-over

pub digit-d-requires : goal.digit-d-requires
digit-d-requires c = search a-digit

pub returns-then-digit_clashes : goal.returns-then-digit_clashes
returns-then-digit_clashes c = search digit-clash

pub loop-i-preserved : goal.loop-i-preserved
loop-i-preserved c = search digit-on

pub returns : goal.returns
returns c = search digits-end
