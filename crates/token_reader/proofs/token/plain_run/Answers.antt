use Rattle.token_reader.proofs.token.Grouping.{run_more}
use Rattle.token_reader.proofs.token.plain_run.Goals as goal

pub loop-i-preserved : goal.loop-i-preserved
loop-i-preserved c = search run_more
