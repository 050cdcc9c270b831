use borrow.Author.Rules.{rules}
use native.Mathlib.Omega.{arith}
use Rattle.chain_record.proofs.plain.Laws.{length-mapped}
use Rattle.writer.proofs.emit.Laws.{written-nil}
use Rattle.sn_labels.proofs.label_block.Laws.{entry_here, entry_next, entry-none}
use Rattle.sn_labels.proofs.label_block.Sites.{site-digit}
use mathlib.Core.Path.{refl}
use Rattle.sn_labels.proofs.label_block.put_entry.Goals as goal

pub loop-i-init : goal.loop-i-init
loop-i-init c = (refl, search length-mapped, written-nil _ _ (omega arith))

pub put_label-requires : goal.put_label-requires
put_label-requires c = search site-digit

pub returns-then-site-atom : goal.returns-then-site-atom
returns-then-site-atom c = search (entry_here, arith)

pub loop-i-preserved : goal.loop-i-preserved
loop-i-preserved c = (search entry_next, search rules, search rules)

pub returns : goal.returns
returns c = search entry-none
