use Rattle.reading_rules.specs.reading.Ascii.{ascii}
use native.Mathlib.Omega.{arith}
use Rattle.sn_labels.proofs.label_block.Laws.{block-text}
use Rattle.sn_labels.proofs.label_block.put_label_text.Goals as goal

pub returns : goal.returns
unfolding ascii
returns c = search (block-text, arith)
