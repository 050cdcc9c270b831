use native.Mathlib.Omega.{arith}
use Rattle.chain_pieces.proofs.backbone.Laws.{bridge-there, bridge-none}
use Rattle.chain_pieces.proofs.backbone.put_bridge.Goals as goal

pub returns-then-bond-eq79 : goal.returns-then-bond-eq79
returns-then-bond-eq79 c = search bridge-there

pub returns : goal.returns
returns c = search (bridge-none, arith)
