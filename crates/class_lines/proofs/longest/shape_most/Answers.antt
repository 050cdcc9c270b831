use Rattle.class_lines.proofs.longest.Numbers.{shape-bounded}
use Rattle.class_lines.proofs.longest.shape_most.Goals as goal

pub returns : goal.returns
returns c = search shape-bounded
