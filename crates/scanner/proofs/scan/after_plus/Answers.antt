use Rattle.scanner.proofs.scan.Laws.{plus_none, plus-some, plus-other}
use Rattle.scanner.proofs.scan.after_plus.Goals as goal

pub returns-then-s-eq0 : goal.returns-then-s-eq0
returns-then-s-eq0 c = search plus_none

pub returns-then-s-eq43 : goal.returns-then-s-eq43
returns-then-s-eq43 c = search plus-some

pub returns : goal.returns
returns c = search plus-other
