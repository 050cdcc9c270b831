use Rattle.drawn_chain.proofs.reach.Ends.{rest-is}
use Rattle.drawn_chain.proofs.reach.remaining.Goals as goal

pub returns : goal.returns
returns c = search rest-is
