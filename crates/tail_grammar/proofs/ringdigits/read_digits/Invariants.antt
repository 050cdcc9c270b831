use Rattle.tail_grammar.specs.ringdigits.Digits.{rings_of}
use Rattle.tail_grammar.proofs.ringdigits.Scan.{InDigits}
use Rattle.tail_grammar.proofs.ringdigits.read_digits.Given as goal

abbrev pub invariant-loop-i : goal.invariant-loop-i
invariant-loop-i l = InDigits l.s l.at (rings_of l.atoms l.initial.opened l.initial.joined) l.i (rings_of l.atoms l.opened l.joined)
