use Rattle.token_head.proofs.positions.Laws.{numbered-unreadable, numbered_is, numbered-fits}
use Rattle.token_head.proofs.positions.numbered_position.Goals as goal

pub returns-in_default : goal.returns-in_default
returns-in_default c = search numbered-unreadable

pub overflow_cast-result : goal.overflow_cast-result
overflow_cast-result c = search numbered-fits

pub returns : goal.returns
returns c = search numbered_is
