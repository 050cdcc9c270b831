use native.Mathlib.Omega.{arith}
use Rattle.batch.proofs.LineLaws.{first-full, first-last, first-within, first_more}
use Rattle.batch.proofs.answer_first.Goals as goal

pub returns-then-limit-at : goal.returns-then-limit-at
returns-then-limit-at c = search (first-full, arith)

pub returns-then-n-text : goal.returns-then-n-text
returns-then-n-text c = search (first-last, arith)

pub overflow_add-result : goal.overflow_add-result
overflow_add-result c = omega (arith, c.find-n.ensures.within, c.if-n-text.false)

pub overflow_add-result-2 : goal.overflow_add-result-2
overflow_add-result-2 c = omega (arith, first-within _ _ _ c.find-n.ensures c.if-n-text.false c.answer_more-more.ensures.within)

pub returns : goal.returns
returns c = first_more _ _ _ _ _ _ _ c.find-n.ensures _ _ _ _ _ _ _ (omega arith) c.if-n-text.false c.answer_line-lined.ensures c.answer_more-more.ensures
