use Rattle.token_reader.proofs.seats.Laws.{seat-here, seat-next, seat-none}
use Rattle.token_reader.proofs.seats.first_free.Goals as goal

pub returns-then-is_free : goal.returns-then-is_free
returns-then-is_free c = search seat-here

pub loop-p-preserved : goal.loop-p-preserved
loop-p-preserved c = search seat-next

pub returns : goal.returns
returns c = search seat-none
