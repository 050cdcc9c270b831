use Rattle.token_head.proofs.opening.Laws.{start-straight, start-iso, start-anteiso}
use Rattle.token_head.proofs.opening.start_chain.Goals as goal

pub returns-in-Straight : goal.returns-in-Straight
returns-in-Straight c = search start-straight

pub returns-in-Iso : goal.returns-in-Iso
returns-in-Iso c = search start-iso

pub returns-in-Anteiso : goal.returns-in-Anteiso
returns-in-Anteiso c = search start-anteiso
