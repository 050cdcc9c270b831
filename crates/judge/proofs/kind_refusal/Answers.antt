use Rattle.judge.proofs.Laws.{kind-told}
use Rattle.judge.proofs.kind_refusal.Goals as goal

pub returns : goal.returns
returns c = rw c.then_some.ensures (kind-told _ _ _ _ c.wrong_kind.ensures)
