use Rattle.drawn_chain.proofs.fitted.Drawing.{one_more, one-full}
use Rattle.drawn_chain.proofs.fitted.push_group.Goals as goal

pub returns-then-count-lt-GROUP_ROOM : goal.returns-then-count-lt-GROUP_ROOM
returns-then-count-lt-GROUP_ROOM c = search one_more

pub returns : goal.returns
returns c = search one-full
