use Rattle.std.proofs.Common.{arith}
use Rattle.std.proofs.lemmas.Bool.Decides.{nat_tests}
use Rattle.reading_rules.specs.reading.Ascii.{ascii}
use Rattle.reading_rules.specs.reading.Lexer.{memb, organic}
use Rattle.tail_grammar.proofs.tailatom.is_letter.Goals as goal

pub returns-in-66 : goal.returns-in-66
unfolding memb organic ascii
returns-in-66 c = grind (arith, nat_tests)

pub returns-in-66-2 : goal.returns-in-66-2
unfolding memb organic ascii
returns-in-66-2 c = grind (arith, nat_tests)

pub returns-in-66-3 : goal.returns-in-66-3
unfolding memb organic ascii
returns-in-66-3 c = grind (arith, nat_tests)

pub returns-in-66-4 : goal.returns-in-66-4
unfolding memb organic ascii
returns-in-66-4 c = grind (arith, nat_tests)

pub returns-in-66-5 : goal.returns-in-66-5
unfolding memb organic ascii
returns-in-66-5 c = grind (arith, nat_tests)

pub returns-in_default : goal.returns-in_default
unfolding memb organic ascii
returns-in_default c = grind (arith, nat_tests)

pub returns-in_default-2 : goal.returns-in_default-2
unfolding memb organic ascii
returns-in_default-2 c = grind (arith, nat_tests)

pub returns-in_default-3 : goal.returns-in_default-3
unfolding memb organic ascii
returns-in_default-3 c = grind (arith, nat_tests)

pub returns-in_default-4 : goal.returns-in_default-4
unfolding memb organic ascii
returns-in_default-4 c = grind (arith, nat_tests)

pub returns-in_default-5 : goal.returns-in_default-5
unfolding memb organic ascii
returns-in_default-5 c = grind (arith, nat_tests)
