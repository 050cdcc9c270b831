use Rattle.std.proofs.Common.{arith}
use Rattle.std.proofs.lemmas.Bool.Decides.{nat_tests}
use Rattle.reading_rules.specs.reading.Lexer.{within}
use Rattle.tail_grammar.proofs.ringdigits.is_ring_digit.Goals as goal

pub returns-in-49-to-57 : goal.returns-in-49-to-57
unfolding within
returns-in-49-to-57 c = grind (arith, nat_tests)

pub returns-in_default : goal.returns-in_default
unfolding within
returns-in_default c = grind (arith, nat_tests)

pub returns-in_default-2 : goal.returns-in_default-2
unfolding within
returns-in_default-2 c = grind (arith, nat_tests)
