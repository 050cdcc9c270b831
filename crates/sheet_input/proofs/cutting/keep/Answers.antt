use Rattle.sheet_input.proofs.cutting.Laws.{kept-past}
use Rattle.sheet_input.proofs.cutting.keep.Goals as goal

pub returns-else-k-starts : goal.returns-else-k-starts
returns-else-k-starts c = search kept-past
