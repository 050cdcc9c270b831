use Rattle.judge.proofs.Judging.{tail-outside, tail-elsewhere}
use Rattle.judge.proofs.wrong_tail.Goals as goal

pub returns-then-has_tail : goal.returns-then-has_tail
returns-then-has_tail c = search tail-outside

pub returns-else-has_tail : goal.returns-else-has_tail
returns-else-has_tail c = search tail-elsewhere
