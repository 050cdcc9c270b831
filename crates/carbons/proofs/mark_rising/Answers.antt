use borrow.Author.Rules.{rules}
use Rattle.carbons.proofs.BondLaws.{rising-all, rising-end, rising-one, rising-past, rising-less}
use Rattle.carbons.proofs.mark_rising.Goals as goal

pub loop-bond-init : goal.loop-bond-init
loop-bond-init c = search rising-all

pub returns-then-carbon-p : goal.returns-then-carbon-p
returns-then-carbon-p c = search rising-past

pub mark_bond-requires : goal.mark_bond-requires
mark_bond-requires c = (search rising-one, search rules, search rules)

pub loop-bond-preserved : goal.loop-bond-preserved
loop-bond-preserved c = search rising-less

pub returns : goal.returns
returns c = search rising-end
