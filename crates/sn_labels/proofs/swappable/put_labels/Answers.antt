use borrow.Author.Rules.{rules}
use native.Mathlib.Omega.{arith}
use Rattle.writer.proofs.emit.Laws.{written-nil}
use Rattle.reading_rules.specs.reading.Parting.{joined}
use Rattle.chain_record.proofs.plain.Laws.{length-mapped}
use Rattle.reading_rules.specs.reading.Molecule.{notes_of}
use Rattle.line_parts.specs.shown.Notes.{labels_of}
use Rattle.sn_labels.proofs.swappable.Laws.{labels-more}
use Rattle.sn_labels.proofs.label_block.Sites.{site-digit}
use Rattle.sn_labels.proofs.swappable.put_labels.Goals as goal

pub loop-i-init : goal.loop-i-init
unfolding joined notes_of labels_of
loop-i-init c = (search length-mapped, written-nil _ _ (omega arith))

pub put_next_label-p-requires : goal.put_next_label-p-requires
put_next_label-p-requires c = search site-digit

pub loop-i-preserved : goal.loop-i-preserved
loop-i-preserved c = (search rules, search (labels-more, arith))
