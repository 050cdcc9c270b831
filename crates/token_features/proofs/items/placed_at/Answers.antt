use Rattle.token_features.proofs.features.Laws.{placed-ring, placed-group}
use Rattle.token_features.proofs.items.placed_at.Goals as goal

pub returns-in-Ring : goal.returns-in-Ring
returns-in-Ring c = search placed-ring

pub returns-in-Group : goal.returns-in-Group
returns-in-Group c = search placed-group
