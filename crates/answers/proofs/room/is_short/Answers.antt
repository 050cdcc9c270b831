use Rattle.answers.proofs.room.Laws.{not_short}
use Rattle.answers.proofs.room.is_short.Goals as goal

pub returns-then-is_ample : goal.returns-then-is_ample
returns-then-is_ample c = not_short _ (c.is_ample.ensures c.if-is_ample.true)
