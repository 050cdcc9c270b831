use Rattle.chain_refusals.proofs.clash.Clashes.{ring-ends, ring-apart}
use Rattle.chain_refusals.proofs.clash.same_ring.Goals as goal

pub returns-then-a-b : goal.returns-then-a-b
returns-then-a-b c = search ring-ends

pub returns-else-a-b : goal.returns-else-a-b
returns-else-a-b c = search ring-apart
