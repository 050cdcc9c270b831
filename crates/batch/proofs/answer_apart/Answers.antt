use Rattle.batch.proofs.ReplyLaws.{drawn-apart}
use borrow.Author.Rules.{rules}
use Rattle.batch.proofs.answer_apart.Goals as goal

pub returns : goal.returns
returns c = drawn-apart _ _ _ _ (search rules) _ _ c.draw_lent-answer.ensures c.put_answer-next.ensures
