use Rattle.sheet_frame.proofs.row_heads.Laws.{ended-text}
use native.Mathlib.Omega.{arith}
use Rattle.sheet_frame.proofs.row_heads.put_number_cell.Goals as goal

pub returns : goal.returns
returns c = search (ended-text, arith)
