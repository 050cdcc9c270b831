use Rattle.drawn_chain.proofs.reach.Ends.{prefix-inside, prefix-whole}
use Rattle.drawn_chain.proofs.reach.prefix_end.Goals as goal

pub returns-then-reach-carbon : goal.returns-then-reach-carbon
returns-then-reach-carbon c = search prefix-inside

pub returns : goal.returns
returns c = search prefix-whole
