use Rattle.scanner.proofs.part.Laws.{same-answer}
use Rattle.scanner.proofs.part.same.Goals as goal

pub returns : goal.returns
returns c = search same-answer
