use native.Mathlib.Omega.{arith}
use Rattle.line_parts.proofs.shown.Laws.{part-text}
use Rattle.sn_labels.proofs.swappable.put_next_label.Goals as goal

pub returns : goal.returns
returns c = search (part-text, arith)
