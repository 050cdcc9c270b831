use Rattle.token_reader.proofs.seats.Laws.{used-above}
use Rattle.token_reader.proofs.seats.is_free.Goals as goal

pub returns : goal.returns
returns c = search used-above
