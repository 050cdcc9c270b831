use Rattle.carbons.proofs.BondLaws.{marks-by}
use Rattle.carbons.proofs.mark_any.Goals as goal

pub returns : goal.returns
returns c = search marks-by
