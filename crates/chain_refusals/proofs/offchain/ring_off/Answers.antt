use Rattle.chain_refusals.proofs.offchain.Off.{ring-before, ring-carbonyl, ring-on}
use Rattle.chain_refusals.proofs.offchain.ring_off.Goals as goal

pub returns-then-ring-first : goal.returns-then-ring-first
returns-then-ring-first c = search ring-before

pub returns-then-acyl : goal.returns-then-acyl
returns-then-acyl c = search ring-carbonyl

pub returns-else-acyl : goal.returns-else-acyl
returns-else-acyl c = search ring-on
