use Rattle.class_lines.proofs.longest.Stood.{past-covered, there-covered}
use Rattle.class_lines.proofs.longest.chain_most.Goals as goal

pub returns-then-count-i : goal.returns-then-count-i
returns-then-count-i c = search past-covered

pub returns : goal.returns
returns c = search there-covered
