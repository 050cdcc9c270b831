use Rattle.batch.proofs.LineLaws.{rows-answered}
use Rattle.batch.proofs.answer_more.Goals as goal

pub returns : goal.returns
returns c = search rows-answered
