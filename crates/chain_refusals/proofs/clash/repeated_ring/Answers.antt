use Rattle.drawn_chain.proofs.drawable.Turns.{two_here, two_next, two_none}
use Rattle.chain_refusals.proofs.clash.repeated_ring.Goals as goal

pub returns-then-any_same_ring : goal.returns-then-any_same_ring
returns-then-any_same_ring c = search (two_here, c.in-Some.ensures.cases)

pub loop-ring-preserved : goal.loop-ring-preserved
loop-ring-preserved c = search (two_next, c.in-Some.ensures.cases)

pub returns : goal.returns
returns c = search (two_none, c.in_default.ensures.cases)
