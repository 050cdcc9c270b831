use Rattle.token_head.proofs.opening.Laws.{opened-digit}
use Rattle.token_head.proofs.opening.read_opening.Goals as goal

pub returns : goal.returns
returns c = search opened-digit
