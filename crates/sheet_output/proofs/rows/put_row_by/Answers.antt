use Rattle.sheet_output.proofs.rows.Laws.{row-text}
use native.Mathlib.Omega.{arith}
use Rattle.sheet_output.proofs.rows.put_row_by.Goals as goal

pub returns : goal.returns
returns c = search (row-text, arith)
