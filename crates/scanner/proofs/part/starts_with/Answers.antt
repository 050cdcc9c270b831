use Rattle.scanner.proofs.part.Laws.{starts-answer}
use Rattle.scanner.proofs.part.starts_with.Goals as goal

pub returns : goal.returns
returns c = search starts-answer
