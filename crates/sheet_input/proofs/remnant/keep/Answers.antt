use Rattle.sheet_input.proofs.remnant.Laws.{moved_none, moved_all}
use Rattle.sheet_input.proofs.remnant.keep.Goals as goal

pub returns-then-end-from : goal.returns-then-end-from
returns-then-end-from c = moved_none _ _ _ _ c.min-end.ensures c.if-end-from.true

pub returns : goal.returns
returns c = moved_all _ _ _ _ _ _ c.min-end.ensures c.if-end-from.false c.min-n.ensures c.copy_within.ensures.after
