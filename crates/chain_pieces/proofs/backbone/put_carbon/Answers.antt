use native.Mathlib.Omega.{arith}
use Rattle.chain_pieces.proofs.backbone.Laws.{carbon-plain, carbon-bridged, carbon-marked}
use Rattle.chain_pieces.proofs.backbone.put_carbon.Goals as goal

pub returns-then-bond-eq0 : goal.returns-then-bond-eq0
returns-then-bond-eq0 c = search carbon-plain

pub returns-then-bond-eq79 : goal.returns-then-bond-eq79
returns-then-bond-eq79 c = search carbon-bridged

pub returns : goal.returns
returns c = search (carbon-marked, arith)
