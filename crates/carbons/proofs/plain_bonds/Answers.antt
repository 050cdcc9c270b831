use Rattle.carbons.proofs.TokenLaws.{bonds-plain}
use Rattle.carbons.proofs.plain_bonds.Goals as goal

pub returns : goal.returns
returns c = search bonds-plain
