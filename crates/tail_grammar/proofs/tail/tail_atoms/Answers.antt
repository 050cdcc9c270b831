use Rattle.std.proofs.Common.{◌∙◌}
use Rattle.tail_grammar.proofs.tail.Scan.{tail-empty, tail-long, tail-refused, tail-closes, tail-early, tail-open, tail-ends}
use Rattle.tail_grammar.proofs.tail.tail_atoms.Goals as goal

pub returns-then-is_empty : goal.returns-then-is_empty
returns-then-is_empty c = search tail-empty

pub returns-then-s-gt-MAX_TAIL : goal.returns-then-s-gt-MAX_TAIL
returns-then-s-gt-MAX_TAIL c = search tail-long

pub returns-in_default-read_run : goal.returns-in_default-read_run
returns-in_default-read_run c = tail-refused _ _ c.is_empty.ensures c.if-is_empty.false c.if-s-gt-MAX_TAIL.false c.in_default-read_run.ensures

pub returns-then-r-s : goal.returns-then-r-s
returns-then-r-s c = search (tail-closes, c.in-Some-read_run.ensures)

pub returns-then-not-follows_atom : goal.returns-then-not-follows_atom
returns-then-not-follows_atom c = search (tail-early, c.in-Some-read_run.ensures)

pub returns-then-not-none_open : goal.returns-then-not-none_open
returns-then-not-none_open c = search (tail-open, c.in-Some-read_run.ensures)

pub returns : goal.returns
returns c = c.from.ensures ∙ search (tail-ends, c.in-Some-read_run.ensures)
