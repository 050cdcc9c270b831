use Rattle.batch.proofs.ReplyLaws.{answer-text}
use Rattle.batch.proofs.put_answer.Goals as goal

pub returns : goal.returns
returns c = search answer-text
