use Rattle.token_segments.proofs.ring.Laws.{bonds-unreadable, bonds-unlisted, bonds-listed}
use Rattle.token_segments.proofs.ring.parse_ring_bond_count.Goals as goal

pub returns-in_default : goal.returns-in_default
returns-in_default c = search bonds-unreadable

pub returns-then-open-s : goal.returns-then-open-s
returns-then-open-s c = search bonds-unlisted

pub returns : goal.returns
returns c = search bonds-listed
