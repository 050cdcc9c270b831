use Rattle.scanner.proofs.spaces.Laws.{trim-none, trim-whole}
use Rattle.scanner.proofs.spaces.trim.Goals as goal

pub returns-then-s-eq0 : goal.returns-then-s-eq0
returns-then-s-eq0 c = search trim-none

pub returns : goal.returns
returns c = search trim-whole
