use mathlib.Core.Bool.{false≢true}
use Rattle.placement.proofs.chain_strand.has_room.Goals as goal

pub returns-then-text-at : goal.returns-then-text-at
returns-then-text-at c = λ e. absurd (false≢true e)

pub returns-then-text-at-2 : goal.returns-then-text-at-2
returns-then-text-at-2 c = λ e. absurd (false≢true e)

pub returns-then-index-used : goal.returns-then-index-used
returns-then-index-used c = λ e. absurd (false≢true e)

pub returns-then-index-used-2 : goal.returns-then-index-used-2
returns-then-index-used-2 c = λ e. absurd (false≢true e)

pub returns-then-first-ge-FIRST_ROOM : goal.returns-then-first-ge-FIRST_ROOM
returns-then-first-ge-FIRST_ROOM c = λ e. absurd (false≢true e)
