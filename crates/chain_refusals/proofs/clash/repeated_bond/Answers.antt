use Rattle.drawn_chain.proofs.drawable.Turns.{two_here, two_next, two_none}
use Rattle.chain_refusals.proofs.clash.Clashes.{same-bond-at}
use Rattle.chain_refusals.proofs.clash.repeated_bond.Goals as goal

pub returns-then-any_bond_at : goal.returns-then-any_bond_at
returns-then-any_bond_at c = search (two_here, same-bond-at, c.in-Some.ensures.cases)

pub loop-bond-preserved : goal.loop-bond-preserved
loop-bond-preserved c = search (two_next, same-bond-at, c.in-Some.ensures.cases)

pub returns : goal.returns
returns c = search (two_none, c.in_default.ensures.cases)
