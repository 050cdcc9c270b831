use mathlib.Core.Path.{refl}
use native.Mathlib.Omega.{arith}
use Rattle.group_table.specs.groups.Groups.{entries}
use Rattle.carbons.proofs.Loads.{row_told, row-past}
use Rattle.carbons.proofs.row_atoms.Goals as goal

pub returns-then-row-lt-ROW_COUNT : goal.returns-then-row-lt-ROW_COUNT
unfolding entries
returns-then-row-lt-ROW_COUNT c = row_told _ _ _ refl refl

pub returns : goal.returns
returns c = search (row-past, arith)
