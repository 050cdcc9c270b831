use Rattle.token_reader.proofs.seats.Laws.{marks-none, marks-one}
use Rattle.token_reader.proofs.seats.mark_listed.Goals as goal

pub loop-bond-init : goal.loop-bond-init
loop-bond-init c = search marks-none

pub loop-bond-preserved : goal.loop-bond-preserved
loop-bond-preserved c = search marks-one
