use Rattle.reading_rules.specs.reading.Ascii.{ascii}
use native.Mathlib.Omega.{arith}
use Rattle.sn_labels.proofs.swappable.Laws.{swap-text}
use Rattle.sn_labels.proofs.swappable.put_swap_text.Goals as goal

pub returns : goal.returns
unfolding ascii
returns c = search (swap-text, arith)
