use Rattle.carbons.proofs.BondLaws.{mark-cis, mark-trans, mark-none}
use Rattle.carbons.proofs.mark_bond.Goals as goal

pub returns-in-Unstated : goal.returns-in-Unstated
returns-in-Unstated c = search mark-none

pub returns-in-Cis : goal.returns-in-Cis
returns-in-Cis c = search mark-cis

pub returns-in-Trans : goal.returns-in-Trans
returns-in-Trans c = search mark-trans
