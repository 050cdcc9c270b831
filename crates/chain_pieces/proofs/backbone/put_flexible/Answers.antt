use native.Mathlib.Omega.{arith}
use Rattle.chain_pieces.proofs.backbone.Laws.{flexible-none, flexible-written}
use Rattle.chain_pieces.proofs.backbone.put_flexible.Goals as goal

pub returns-then-n-eq0 : goal.returns-then-n-eq0
returns-then-n-eq0 c = search (flexible-none, arith)

pub returns : goal.returns
returns c = search (flexible-written, arith)
