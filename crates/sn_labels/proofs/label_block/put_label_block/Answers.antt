use native.Mathlib.Omega.{arith}
use Rattle.sn_labels.proofs.label_block.Sites.{digits-counted}
use Rattle.sn_labels.proofs.label_block.Laws.{block_none, block-some}
use Rattle.sn_labels.proofs.label_block.put_label_block.Goals as goal

pub returns-then-n-eq0 : goal.returns-then-n-eq0
returns-then-n-eq0 c = search (block_none, arith)

pub put_label_text-requires : goal.put_label_text-requires
put_label_text-requires c = record { count_le_max_sites = omega arith; digits = search digits-counted }

pub returns : goal.returns
returns c = search (block-some, arith)
