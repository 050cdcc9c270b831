use Rattle.tail_grammar.proofs.tailatom.Atom.{bracket-first, bracket-on, bracket-strange, bracket-empty, bracket-long, bracket-shut, bracket-cut}
use Rattle.tail_grammar.proofs.tailatom.after_bracket.Goals as goal

pub loop-i-init : goal.loop-i-init
loop-i-init c = search bracket-first

pub loop-i-preserved : goal.loop-i-preserved
loop-i-preserved c = search bracket-on

pub returns-then-b-ne93 : goal.returns-then-b-ne93
returns-then-b-ne93 c = search bracket-strange

pub returns-then-i-at : goal.returns-then-i-at
returns-then-i-at c = search bracket-empty

pub returns-then-i-at-gt-MAX_BRACKET : goal.returns-then-i-at-gt-MAX_BRACKET
returns-then-i-at-gt-MAX_BRACKET c = search bracket-long

pub returns-in-loop-i : goal.returns-in-loop-i
returns-in-loop-i c = search bracket-shut

pub returns : goal.returns
returns c = search bracket-cut
