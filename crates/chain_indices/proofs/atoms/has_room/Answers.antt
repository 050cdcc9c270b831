use borrow.Author.Rules.{rules}
use mathlib.Core.Bool.{false≢true}
use Rattle.chain_indices.proofs.atoms.has_room.Goals as goal

pub returns-then-room-n : goal.returns-then-room-n
returns-then-room-n c = λ e. absurd (false≢true e)

pub returns-then-room-n-2 : goal.returns-then-room-n-2
returns-then-room-n-2 c = λ e. absurd (false≢true e)

pub returns-then-first-ge-FIRST_ROOM : goal.returns-then-first-ge-FIRST_ROOM
returns-then-first-ge-FIRST_ROOM c = λ e. absurd (false≢true e)

pub returns-then-carbon-gt-MAX_CARBONS : goal.returns-then-carbon-gt-MAX_CARBONS
returns-then-carbon-gt-MAX_CARBONS c = λ e. absurd (false≢true e)

pub returns-then-last-carbon : goal.returns-then-last-carbon
returns-then-last-carbon c = λ e. absurd (false≢true e)

pub returns : goal.returns
returns c = λ e. search rules
