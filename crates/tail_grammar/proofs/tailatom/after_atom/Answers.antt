use Rattle.tail_grammar.proofs.tailatom.Atom.{atom-end, atom-bracket, atom-strange, atom-last, atom-two, atom-one}
use Rattle.tail_grammar.proofs.tailatom.after_atom.Goals as goal

pub returns-then-at-s : goal.returns-then-at-s
returns-then-at-s c = search atom-end

pub returns-then-b-eq91 : goal.returns-then-b-eq91
returns-then-b-eq91 c = search atom-bracket

pub returns-then-not-is_letter : goal.returns-then-not-is_letter
returns-then-not-is_letter c = search atom-strange

pub returns-then-next-s : goal.returns-then-next-s
returns-then-next-s c = search atom-last

pub returns-then-is_second : goal.returns-then-is_second
returns-then-is_second c = search atom-two

pub returns : goal.returns
returns c = search atom-one
