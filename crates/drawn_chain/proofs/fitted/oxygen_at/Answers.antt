use Rattle.drawn_chain.proofs.fitted.Drawing.{oxygen-none, oxygen-one}
use Rattle.drawn_chain.proofs.fitted.oxygen_at.Goals as goal

pub returns-then-group_at : goal.returns-then-group_at
returns-then-group_at c = search oxygen-none

pub returns : goal.returns
returns c = search oxygen-one
