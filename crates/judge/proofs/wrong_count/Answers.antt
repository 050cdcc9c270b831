use Rattle.judge.proofs.Judging.{count-few, count-enough}
use Rattle.judge.proofs.wrong_count.Goals as goal

pub returns-then-count-fewest : goal.returns-then-count-fewest
returns-then-count-fewest c = search count-few

pub returns-else-count-fewest : goal.returns-else-count-fewest
returns-else-count-fewest c = search count-enough
