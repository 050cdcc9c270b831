use Rattle.answers.proofs.answer.Laws.{refused-is}
use Rattle.answers.proofs.answer.refused.Goals as goal

pub returns : goal.returns
returns c = search refused-is
