use Rattle.token_features.proofs.features.Laws.{item-ring, item-group, item-other}
use Rattle.token_features.proofs.items.read_item.Goals as goal

pub returns-in-Ring : goal.returns-in-Ring
returns-in-Ring c = search item-ring

pub returns-in-Group : goal.returns-in-Group
returns-in-Group c = search item-group

pub returns-in-Other : goal.returns-in-Other
returns-in-Other c = search item-other
