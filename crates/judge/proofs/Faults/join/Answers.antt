use Rattle.judge.proofs.Laws.{joined}
use Rattle.judge.proofs.Faults.join.Goals as goal

pub returns : goal.returns
returns c = search joined
