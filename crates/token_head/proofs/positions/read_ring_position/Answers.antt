use Rattle.token_head.proofs.positions.Laws.{ring-unreadable, ring-below, ring-above, ring-inside}
use Rattle.token_head.proofs.positions.read_ring_position.Goals as goal

pub returns-in_err-bond : goal.returns-in_err-bond
returns-in_err-bond c = search (ring-unreadable, c.in_err-bond.was)

pub returns-then-pos-start : goal.returns-then-pos-start
returns-then-pos-start c = search (ring-below, c.in_ok-bond.was)

pub returns-then-end-pos : goal.returns-then-end-pos
returns-then-end-pos c = search (ring-above, c.in_ok-bond.was)

pub returns : goal.returns
returns c = search (ring-inside, c.in_ok-bond.was)
