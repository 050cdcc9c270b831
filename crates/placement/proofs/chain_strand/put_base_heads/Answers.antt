use Rattle.placement.proofs.chain_strand.Laws.{base-heads}
use Rattle.placement.proofs.chain_strand.put_base_heads.Goals as goal

pub returns : goal.returns
returns c = search base-heads
