use Rattle.judge.proofs.Laws.{none-due}
use Rattle.judge.proofs.Reasons.nothing_due.Goals as goal

pub returns : goal.returns
returns c = search none-due
