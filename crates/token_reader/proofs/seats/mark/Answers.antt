use Rattle.token_reader.proofs.seats.Laws.{not-marked}
use Rattle.token_reader.proofs.seats.mark.Goals as goal

pub returns-else-at-used : goal.returns-else-at-used
returns-else-at-used c = search not-marked
