use Rattle.class_lines.proofs.longest.Numbers.{drawn-bounded}
use Rattle.class_lines.proofs.longest.drawn_most.Goals as goal

pub returns : goal.returns
returns c = search drawn-bounded
