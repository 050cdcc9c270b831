use Rattle.drawn_chain.proofs.reach.Ends.{literal-whole, literal-prefix}
use Rattle.drawn_chain.proofs.reach.literal_end.Goals as goal

pub returns-then-x-eq0 : goal.returns-then-x-eq0
returns-then-x-eq0 c = search literal-whole

pub returns : goal.returns
returns c = search literal-prefix
