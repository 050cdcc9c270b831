use Rattle.class_lines.proofs.longest.Stood.{line-covered}
use Rattle.class_lines.proofs.longest.line_most.Goals as goal

pub returns : goal.returns
returns c = search line-covered
