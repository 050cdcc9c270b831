use Rattle.std.proofs.Common.{arith}
use Rattle.std.proofs.lemmas.Bool.Decides.{nat_tests}
use Rattle.reading_rules.specs.reading.Lexer.{pairs}
use Rattle.tail_grammar.proofs.tailatom.is_second.Goals as goal

pub returns-in-108 : goal.returns-in-108
unfolding pairs
returns-in-108 c = grind (arith, nat_tests)

pub returns-in-114 : goal.returns-in-114
unfolding pairs
returns-in-114 c = grind (arith, nat_tests)

pub returns-in_default : goal.returns-in_default
unfolding pairs
returns-in_default c = grind (arith, nat_tests)
