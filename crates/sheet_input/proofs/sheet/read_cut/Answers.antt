use Rattle.sheet_input.proofs.sheet.Laws.{row-long, row_other, row-no, row-yes, row-swap}
use Rattle.sheet_input.proofs.sheet.read_cut.Goals as goal

pub returns-then-row-gt-MAX_ROW : goal.returns-then-row-gt-MAX_ROW
returns-then-row-gt-MAX_ROW c = search row-long

pub returns-then-cells-plan : goal.returns-then-cells-plan
returns-then-cells-plan c = search row_other

pub returns-in-No : goal.returns-in-No
returns-in-No c = search row-no

pub returns-in-Yes : goal.returns-in-Yes
returns-in-Yes c = search row-yes

pub returns-in-Other : goal.returns-in-Other
returns-in-Other c = search row-swap
