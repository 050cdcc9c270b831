use Rattle.class_lines.proofs.longest.Stood.{slight-covered}
use Rattle.class_lines.proofs.longest.slight_most.Goals as goal

pub returns : goal.returns
returns c = search slight-covered
