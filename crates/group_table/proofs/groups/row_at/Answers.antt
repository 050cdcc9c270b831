use mathlib.Core.Path.{refl}
use lib.Dec.{lit<}
use native.Mathlib.Omega.{arith}
use Rattle.group_table.specs.groups.Groups.{entry_of, entries}
use Rattle.group_table.proofs.groups.Laws.{row-rule, row-past}
use borrow.Author.Rules.{rules}
use Rattle.group_table.proofs.groups.row_at.Goals as goal

pub returns-then-i-lt-ROW_COUNT : goal.returns-then-i-lt-ROW_COUNT
unfolding entry_of entries
returns-then-i-lt-ROW_COUNT c = search (row-rule, lit<, arith)

pub returns : goal.returns
unfolding entry_of
returns c = row-past _ _ (search rules) refl (omega arith) (omega arith)
