use Rattle.tail_grammar.proofs.tail.Scan.{one-letter}
use Rattle.tail_grammar.proofs.tail.is_one_letter.Goals as goal

pub returns-then-s-eq1 : goal.returns-then-s-eq1
returns-then-s-eq1 c = search one-letter
