use Rattle.token_segments.proofs.segment.Laws.{listed-one}
use Rattle.token_segments.proofs.segment.parse_plain_position.Goals as goal

pub returns : goal.returns
returns c = search listed-one
