use native.Mathlib.Omega.{arith}
use Rattle.sheet_frame.proofs.beginning.Laws.{unreadable-text}
use Rattle.sheet_frame.proofs.beginning.put_unreadable.Goals as goal

pub returns : goal.returns
returns c = search (unreadable-text, arith)
