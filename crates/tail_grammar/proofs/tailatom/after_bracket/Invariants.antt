use Rattle.tail_grammar.proofs.tailatom.Atom.{InBracket}
use Rattle.tail_grammar.proofs.tailatom.after_bracket.Given as goal

abbrev pub invariant-loop-i : goal.invariant-loop-i
invariant-loop-i l = InBracket l.s l.at l.i
