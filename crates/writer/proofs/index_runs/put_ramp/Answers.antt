use Rattle.writer.proofs.index_runs.Runs.{run-filled}
use Rattle.writer.proofs.index_runs.put_ramp.Goals as goal

pub returns : goal.returns
returns c = search run-filled
