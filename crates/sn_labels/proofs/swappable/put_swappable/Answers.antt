use native.Mathlib.Omega.{arith}
use Rattle.sn_labels.proofs.label_block.Sites.{digits-counted}
use Rattle.sn_labels.proofs.swappable.Laws.{swap-none, swap-some}
use Rattle.sn_labels.proofs.swappable.put_swappable.Goals as goal

pub returns-then-n-eq0 : goal.returns-then-n-eq0
returns-then-n-eq0 c = search (swap-none, arith)

pub put_swap_text-requires : goal.put_swap_text-requires
put_swap_text-requires c = record { count_le_max_sites = omega arith; digits = search digits-counted }

pub returns : goal.returns
returns c = search (swap-some, arith)
