use native.Mathlib.Omega.{arith}
use Rattle.chain_pieces.proofs.labels.Laws.{label_small, label-two}
use Rattle.chain_pieces.proofs.labels.put_label.Goals as goal

pub returns-then-label-lt10 : goal.returns-then-label-lt10
returns-then-label-lt10 c = search (label_small, arith)

pub returns : goal.returns
returns c = search (label-two, arith)
