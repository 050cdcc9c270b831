use Rattle.drawn_chain.proofs.fitted.Drawing.{base-drawn}
use Rattle.drawn_chain.proofs.fitted.groups_of_base.Goals as goal

pub returns : goal.returns
returns c = search base-drawn
