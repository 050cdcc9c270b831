use native.Mathlib.Omega.{arith}
use Rattle.scanner.proofs.scan.Laws.{digits-none, digits-start, digits-other, digits-over, digits-past, digits_more, digits-end, digit-least}
use Rattle.scanner.proofs.scan.read_many.Goals as goal

pub returns-then-s-eq0 : goal.returns-then-s-eq0
returns-then-s-eq0 c = search digits-none

pub loop-t-init : goal.loop-t-init
loop-t-init c = (search digits-start, omega arith)

pub returns-then-not-is_digit : goal.returns-then-not-is_digit
returns-then-not-is_digit c = search digits-other

pub overflow_sub-x : goal.overflow_sub-x
overflow_sub-x c = search digit-least

pub returns-then-limit-x : goal.returns-then-limit-x
returns-then-limit-x c = search digits-over

pub returns-then-limit-x-2 : goal.returns-then-limit-x-2
returns-then-limit-x-2 c = search digits-past

pub loop-t-preserved : goal.loop-t-preserved
loop-t-preserved c = (search digits_more, omega arith)

pub returns : goal.returns
returns c = search digits-end
