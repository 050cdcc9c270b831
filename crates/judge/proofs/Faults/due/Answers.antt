use Rattle.judge.proofs.Laws.{due-tail, due-other}
use Rattle.judge.proofs.Faults.due.Goals as goal

pub returns-then-outside : goal.returns-then-outside
returns-then-outside c = search due-tail

pub returns : goal.returns
returns c = search due-other
