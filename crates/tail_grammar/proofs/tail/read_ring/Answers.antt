use Rattle.tail_grammar.proofs.tail.Scan.{ring-clash, ring-left, ring-read}
use Rattle.tail_grammar.proofs.tail.read_ring.Goals as goal

pub returns-in_err-next : goal.returns-in_err-next
returns-in_err-next c = λ t. rw c.from_residual.ensures (ring-clash _ _ c.requires _ _ c.in_err-next.ensures t)

pub returns-then-next-r : goal.returns-then-next-r
returns-then-next-r c = ring-left _ _ c.requires _ _ _ _ _ c.in_ok-next.ensures c.if-next-r.true

pub returns : goal.returns
returns c = ring-read _ _ c.requires _ _ _ _ _ c.in_ok-next.ensures c.if-next-r.false
