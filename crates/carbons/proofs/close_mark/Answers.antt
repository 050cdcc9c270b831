use Rattle.carbons.proofs.BondLaws.{close-there, close-full, close-none}
use Rattle.carbons.proofs.close_mark.Goals as goal

pub returns-then-b-eq0 : goal.returns-then-b-eq0
returns-then-b-eq0 c = search close-there

pub returns-else-b-eq0 : goal.returns-else-b-eq0
returns-else-b-eq0 c = search close-full

pub returns-else-q-carbon : goal.returns-else-q-carbon
returns-else-q-carbon c = search close-none
