use Rattle.token_head.proofs.opening.Laws.{opened-straight, opened-iso, opened-anteiso}
use Rattle.token_head.proofs.opening.read_words.Goals as goal

pub returns-in-Straight : goal.returns-in-Straight
returns-in-Straight c = search opened-straight

pub returns-in-Iso : goal.returns-in-Iso
returns-in-Iso c = search opened-iso

pub returns-in-Anteiso : goal.returns-in-Anteiso
returns-in-Anteiso c = search opened-anteiso
