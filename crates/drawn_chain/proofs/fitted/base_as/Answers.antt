use Rattle.drawn_chain.proofs.fitted.Laying.{base-fits}
use Rattle.drawn_chain.proofs.fitted.base_as.Goals as goal

pub returns : goal.returns
returns c = search base-fits
