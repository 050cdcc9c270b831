use Rattle.sheet_input.proofs.header.Laws.{whole-none, whole-some}
use Rattle.sheet_input.proofs.header.whole_plan.Goals as goal

pub returns-then-places-index-eq0 : goal.returns-then-places-index-eq0
returns-then-places-index-eq0 c = search whole-none

pub returns : goal.returns
returns c = whole-some _ _ _ c.index.ensures c.if-places-index-eq0.false
