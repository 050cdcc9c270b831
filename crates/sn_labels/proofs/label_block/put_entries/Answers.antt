use native.Mathlib.Omega.{arith}
use Rattle.sn_labels.proofs.label_block.Laws.{entries_none, entries-some}
use Rattle.sn_labels.proofs.label_block.put_entries.Goals as goal

pub returns-then-n-eq0 : goal.returns-then-n-eq0
returns-then-n-eq0 c = search (entries_none, arith)

pub returns : goal.returns
returns c = search entries-some
