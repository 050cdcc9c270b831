use Rattle.request_chains.proofs.chain_shapes.Sn.{shape-none, shape-past, shape-there}
use Rattle.request_chains.proofs.chain_shapes.shape_at.Goals as goal
use Rattle.request_chains.proofs.chain_shapes.shape_at.Goals.{then-i-eq0-via-then-i-eq0, then-i-eq0-via-else-i-eq0+then-count-i}

pub returns-then-i-eq0 : goal.returns-then-i-eq0
returns-then-i-eq0 c =
    elim c.then-i-eq0.branch [ then-i-eq0-via-then-i-eq0 w ↦ search shape-none | then-i-eq0-via-else-i-eq0+then-count-i w ↦ search shape-past ]

pub returns : goal.returns
returns c = search shape-there
