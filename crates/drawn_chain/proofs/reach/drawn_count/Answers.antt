use Rattle.drawn_chain.proofs.reach.Ends.{count-flexible, count-both}
use Rattle.drawn_chain.proofs.reach.drawn_count.Goals as goal

pub returns-then-past-first : goal.returns-then-past-first
returns-then-past-first c = search count-flexible

pub returns : goal.returns
returns c = search count-both
