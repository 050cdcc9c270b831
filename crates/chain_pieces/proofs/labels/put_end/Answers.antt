use native.Mathlib.Omega.{arith}
use Rattle.chain_pieces.proofs.labels.Laws.{end-start, end-end, end_none}
use Rattle.chain_pieces.proofs.labels.put_end.Goals as goal

pub returns-then-ring-k : goal.returns-then-ring-k
returns-then-ring-k c = search end-start

pub returns-then-ring-k-2 : goal.returns-then-ring-k-2
returns-then-ring-k-2 c = search end-end

pub returns : goal.returns
returns c = search (end_none, arith)
