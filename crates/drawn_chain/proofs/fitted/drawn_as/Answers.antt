use Rattle.drawn_chain.proofs.fitted.Laying.{fits-slot, fits-acyl, fits-base}
use Rattle.drawn_chain.proofs.fitted.drawn_as.Goals as goal

pub returns-in-Slot : goal.returns-in-Slot
returns-in-Slot c = search fits-slot

pub returns-in-Acyl : goal.returns-in-Acyl
returns-in-Acyl c = search fits-acyl

pub returns-in-Base : goal.returns-in-Base
returns-in-Base c = search fits-base
