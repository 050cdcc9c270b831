use Rattle.tail_grammar.proofs.tailatom.Atom.{bond-end, a-bond, no-bond}
use Rattle.tail_grammar.proofs.tailatom.after_bond.Goals as goal

pub returns-then-at-s : goal.returns-then-at-s
returns-then-at-s c = search bond-end

pub returns-then-is_bond : goal.returns-then-is_bond
returns-then-is_bond c = search a-bond

pub returns : goal.returns
returns c = search no-bond
