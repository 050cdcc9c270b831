use Rattle.carbons.proofs.BondLaws.{set_past}
use Rattle.carbons.proofs.set_at.Goals as goal

pub returns-else-p-xs : goal.returns-else-p-xs
returns-else-p-xs c = search set_past
