use Rattle.placement.proofs.chain_strand.Laws.{heads-slot, heads-acyl, heads-base}
use Rattle.placement.proofs.chain_strand.put_heads.Goals as goal

pub returns-in-Slot : goal.returns-in-Slot
returns-in-Slot c = search heads-slot

pub returns-in-Acyl : goal.returns-in-Acyl
returns-in-Acyl c = search heads-acyl

pub returns-in-Base : goal.returns-in-Base
returns-in-Base c = search heads-base
