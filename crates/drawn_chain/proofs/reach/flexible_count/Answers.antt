use Rattle.drawn_chain.proofs.reach.Ends.{flexible-none, flexible-some}
use Rattle.drawn_chain.proofs.reach.flexible_count.Goals as goal

pub returns-then-unlocated-eq0 : goal.returns-then-unlocated-eq0
returns-then-unlocated-eq0 c = search flexible-none

pub returns : goal.returns
returns c = search flexible-some
