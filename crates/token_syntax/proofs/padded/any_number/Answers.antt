use Rattle.token_syntax.proofs.padded.Laws.{trimmed-number-is}
use Rattle.token_syntax.proofs.padded.any_number.Goals as goal

pub returns : goal.returns
returns c = search trimmed-number-is
