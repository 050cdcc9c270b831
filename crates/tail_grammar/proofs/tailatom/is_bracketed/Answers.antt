use Rattle.std.proofs.Common.{arith}
use Rattle.std.proofs.lemmas.Bool.Decides.{nat_tests}
use Rattle.reading_rules.specs.reading.Ascii.{ascii}
use Rattle.reading_rules.specs.reading.Lexer.{memb, within, bracketed}
use Rattle.tail_grammar.proofs.tailatom.is_bracketed.Goals as goal

pub returns-then-is_ascii_alphanumeric : goal.returns-then-is_ascii_alphanumeric
unfolding bracketed within memb ascii
returns-then-is_ascii_alphanumeric c = grind (arith, nat_tests)

pub returns-in-43 : goal.returns-in-43
unfolding bracketed within memb ascii
returns-in-43 c = grind (arith, nat_tests)

pub returns-in_default : goal.returns-in_default
unfolding bracketed within memb ascii
returns-in_default c = grind (arith, nat_tests)
