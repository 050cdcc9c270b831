use Rattle.scanner.proofs.digits.Laws.{digit_low, digit-test}
use Rattle.scanner.proofs.digits.is_digit.Goals as goal

pub returns-then-b-lt48 : goal.returns-then-b-lt48
returns-then-b-lt48 c = search digit_low

pub returns : goal.returns
returns c = search digit-test
