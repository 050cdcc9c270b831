use Rattle.tail_grammar.proofs.tail.Scan.{bond-read, other-missing, other_fits, other-read}
use Rattle.tail_grammar.proofs.tail.read_other.Goals as goal

pub returns-then-r-from : goal.returns-then-r-from
returns-then-r-from c = search bond-read

pub returns-in_err-next : goal.returns-in_err-next
returns-in_err-next c = λ t o j. rw c.from_residual.ensures (other-missing _ _ c.requires _ c.after_mark-from.ensures c.in_err-next.ensures t o j)

pub with_atom-requires : goal.with_atom-requires
with_atom-requires c = other_fits _ _ c.requires _ c.after_mark-from.ensures _ c.in_ok-next.ensures

pub returns : goal.returns
returns c = other-read _ _ c.requires _ c.after_mark-from.ensures _ c.in_ok-next.ensures _ c.with_atom.ensures
