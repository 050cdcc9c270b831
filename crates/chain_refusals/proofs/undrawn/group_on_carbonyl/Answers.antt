use Rattle.chain_refusals.proofs.undrawn.Draw.{carbonyl-groups, no-carbonyl}
use Rattle.chain_refusals.proofs.undrawn.group_on_carbonyl.Goals as goal

pub returns-then-x : goal.returns-then-x
returns-then-x c = search carbonyl-groups

pub returns : goal.returns
returns c = search no-carbonyl
