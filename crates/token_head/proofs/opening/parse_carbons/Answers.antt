use Rattle.token_head.proofs.opening.Laws.{carbons-unreadable, carbons-over, carbons-read}
use Rattle.token_head.proofs.opening.parse_carbons.Goals as goal

pub returns-in_default : goal.returns-in_default
returns-in_default c = search carbons-unreadable

pub returns-then-n : goal.returns-then-n
returns-then-n c = search carbons-over

pub returns : goal.returns
returns c = search carbons-read
