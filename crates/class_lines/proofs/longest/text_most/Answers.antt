use Rattle.class_lines.proofs.longest.Numbers.{text-bounded}
use Rattle.class_lines.proofs.longest.text_most.Goals as goal

pub returns : goal.returns
returns c = search text-bounded
