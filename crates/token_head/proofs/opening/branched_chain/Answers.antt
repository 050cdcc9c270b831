use Rattle.token_head.proofs.opening.Laws.{too_few, methyl-on}
use Rattle.token_head.proofs.opening.branched_chain.Goals as goal

pub returns-then-written-offset : goal.returns-then-written-offset
returns-then-written-offset c = search too_few

pub returns : goal.returns
returns c = search methyl-on
