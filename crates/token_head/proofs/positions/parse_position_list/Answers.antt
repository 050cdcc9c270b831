use Rattle.token_head.proofs.positions.Laws.{any-list}
use Rattle.token_head.proofs.positions.parse_position_list.Goals as goal

pub returns : goal.returns
returns c = search any-list
