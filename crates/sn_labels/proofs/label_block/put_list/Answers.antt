use native.Mathlib.Omega.{arith}
use Rattle.sn_labels.proofs.label_block.Laws.{list-entries}
use Rattle.sn_labels.proofs.label_block.FallingLaws.{fall-told}
use borrow.Author.Rules.{rules}
use Rattle.sn_labels.proofs.label_block.put_list.Goals as goal

pub put_falling-requires : goal.put_falling-requires
put_falling-requires c = record { count_le_max_sites = omega arith; digits = search rules; falling = search fall-told }

pub returns : goal.returns
returns c = search list-entries
