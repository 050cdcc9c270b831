use Rattle.std.proofs.Common.{arith}
use Rattle.std.proofs.lemmas.Bool.Decides.{nat_tests}
use Rattle.reading_rules.specs.reading.Ascii.{ascii}
use Rattle.reading_rules.specs.reading.Lexer.{memb, organic}
use Rattle.tail_grammar.proofs.tail.is_capital.Goals as goal

pub returns-in-66 : goal.returns-in-66
unfolding memb organic ascii
returns-in-66 c = λ _. grind (arith, nat_tests)

pub returns-in-66-2 : goal.returns-in-66-2
unfolding memb organic ascii
returns-in-66-2 c = λ _. grind (arith, nat_tests)

pub returns-in-66-3 : goal.returns-in-66-3
unfolding memb organic ascii
returns-in-66-3 c = λ _. grind (arith, nat_tests)
