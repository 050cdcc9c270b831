use Rattle.carbons.proofs.BondLaws.{open-there, open_full, open_none}
use Rattle.carbons.proofs.open_mark.Goals as goal

pub returns-then-b-eq0 : goal.returns-then-b-eq0
returns-then-b-eq0 c = search open-there

pub returns-else-b-eq0 : goal.returns-else-b-eq0
returns-else-b-eq0 c = search open_full

pub returns-else-p-gt1 : goal.returns-else-p-gt1
returns-else-p-gt1 c = search open_none
