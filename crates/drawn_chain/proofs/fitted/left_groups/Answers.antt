use Rattle.drawn_chain.proofs.fitted.Drawing.{none_left}
use Rattle.drawn_chain.proofs.fitted.left_groups.Goals as goal

pub returns-then-placed-n : goal.returns-then-placed-n
returns-then-placed-n c = search none_left
