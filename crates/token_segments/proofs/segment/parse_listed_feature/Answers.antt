use Rattle.token_segments.proofs.segment.Laws.{listed-ring, listed-group, listed-other}
use Rattle.token_segments.proofs.segment.parse_listed_feature.Goals as goal

pub returns-in-Ring : goal.returns-in-Ring
returns-in-Ring c = search listed-ring

pub returns-in-Group : goal.returns-in-Group
returns-in-Group c = search listed-group

pub returns-in-Other : goal.returns-in-Other
returns-in-Other c = search listed-other
