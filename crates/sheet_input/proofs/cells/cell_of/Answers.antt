use Rattle.sheet_input.proofs.cells.Laws.{cell-left-out}
use borrow.Author.Rules.{length_unmapped}
use Rattle.sheet_input.proofs.cells.cell_of.Goals as goal

pub returns-then-column-ge-COLUMNS : goal.returns-then-column-ge-COLUMNS
returns-then-column-ge-COLUMNS c = search (cell-left-out, length_unmapped)
