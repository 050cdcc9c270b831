use Rattle.writer.proofs.index_runs.IndexLaws.{index-is}
use Rattle.writer.proofs.index_runs.to_index.Goals as goal

pub returns : goal.returns
returns c = search index-is
