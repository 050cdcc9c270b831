use Rattle.sheet_input.proofs.cellwords.Laws.{swap-blank, swap-long, swap-no, swap-yes, swap-other}
use Rattle.sheet_input.proofs.cellwords.swap_of.Goals as goal

pub returns-then-cell-eq0 : goal.returns-then-cell-eq0
returns-then-cell-eq0 c = search swap-blank

pub returns-then-cell-ne1 : goal.returns-then-cell-ne1
returns-then-cell-ne1 c = search swap-long

pub returns-then-b-eq48 : goal.returns-then-b-eq48
returns-then-b-eq48 c = search swap-no

pub returns-then-b-eq49 : goal.returns-then-b-eq49
returns-then-b-eq49 c = search swap-yes

pub returns : goal.returns
returns c = search swap-other
