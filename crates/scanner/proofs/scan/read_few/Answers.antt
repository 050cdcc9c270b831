use borrow.Author.Rules.{rules}
use native.Mathlib.Omega.{arith}
use Rattle.scanner.proofs.scan.Laws.{digits-none, digits-start, digits-other, digits-large, digits_more, digits-end, digit-least, few-more, few-small, few-fits}
use Rattle.scanner.proofs.scan.read_few.Goals as goal

pub returns-then-s-eq0 : goal.returns-then-s-eq0
returns-then-s-eq0 c = search digits-none

pub loop-t-init : goal.loop-t-init
loop-t-init c = (search digits-start, omega arith, omega arith, omega arith)

pub returns-then-not-is_digit : goal.returns-then-not-is_digit
returns-then-not-is_digit c = search digits-other

pub overflow_sub-digit : goal.overflow_sub-digit
overflow_sub-digit c = search digit-least

pub overflow_add-v : goal.overflow_add-v
overflow_add-v c = search few-fits

pub loop-t-preserved : goal.loop-t-preserved
loop-t-preserved c = (search digits_more, search few-more, search few-small, search rules)

pub returns-then-limit-v : goal.returns-then-limit-v
returns-then-limit-v c = search digits-large

pub returns : goal.returns
returns c = search digits-end
