use Rattle.carbons.proofs.BondLaws.{byte-cis, byte-trans, byte-none}
use Rattle.carbons.proofs.geometry_of.Goals as goal

pub returns-then-b-eq90 : goal.returns-then-b-eq90
returns-then-b-eq90 c = search byte-cis

pub returns-then-b-eq69 : goal.returns-then-b-eq69
returns-then-b-eq69 c = search byte-trans

pub returns : goal.returns
returns c = search byte-none
