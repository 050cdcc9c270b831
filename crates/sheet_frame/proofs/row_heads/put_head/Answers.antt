use Rattle.sheet_frame.proofs.row_heads.Laws.{head-text}
use native.Mathlib.Omega.{arith}
use Rattle.sheet_frame.proofs.row_heads.put_head.Goals as goal

pub returns : goal.returns
returns c = search (head-text, arith)
