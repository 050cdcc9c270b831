use native.Mathlib.Omega.{arith}
use mathlib.Core.Path.{sym}
use mathlib.Core.Bool.{true≢false}
use Rattle.answers.proofs.room.Laws.{ample, slight-ample}
use borrow.Author.Tests.{leb-true}
use Rattle.answers.proofs.room.is_ample.Goals as goal

pub returns-then-index-lt-INDEX_ROOM : goal.returns-then-index-lt-INDEX_ROOM
returns-then-index-lt-INDEX_ROOM c = λ h. absurd (true≢false (sym h))

pub returns-then-are_slight : goal.returns-then-are_slight
returns-then-are_slight c = λ h. search slight-ample

pub returns : goal.returns
returns c = λ h. ample c.line_most.ensures (omega arith) (leb-true _ _ h)
