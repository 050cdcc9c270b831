use Rattle.scanner.proofs.spaces.Laws.{trim-blank, trim-part}
use Rattle.scanner.proofs.spaces.within_spaces.Goals as goal

pub returns-then-to-from : goal.returns-then-to-from
returns-then-to-from c = search trim-blank

pub returns : goal.returns
returns c = search trim-part
