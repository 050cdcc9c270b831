use Rattle.sheet_frame.proofs.beginning.Laws.{new-batch}
use Rattle.sheet_frame.proofs.beginning.Batch.new.Goals as goal

pub returns : goal.returns
returns c = search new-batch
