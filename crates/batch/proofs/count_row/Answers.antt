use Rattle.batch.proofs.LineLaws.{row-counted}
use Rattle.batch.proofs.count_row.Goals as goal

pub returns : goal.returns
returns c = search row-counted
