use Rattle.tail_grammar.proofs.tail.Scan.{mark-before, mark-here}
use Rattle.tail_grammar.proofs.tail.after_mark.Goals as goal

pub returns-then-follows_bond : goal.returns-then-follows_bond
returns-then-follows_bond c = search mark-before

pub returns : goal.returns
returns c = search mark-here
