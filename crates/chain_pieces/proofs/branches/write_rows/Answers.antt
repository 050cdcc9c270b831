use native.Mathlib.Omega.{arith}
use Rattle.carbons.proofs.Left.{left-all, left-length}
use Rattle.chain_pieces.proofs.branches.Laws.{row_next, rows_end}
use Rattle.chain_pieces.proofs.branches.write_rows.Goals as goal

pub loop-group-init : goal.loop-group-init
loop-group-init c = left-all _ _ _ (omega arith)

pub loop-group-preserved : goal.loop-group-preserved
loop-group-preserved c = search (row_next, arith)

pub shape_of-rows : goal.shape_of-rows
shape_of-rows c = search left-length

pub returns : goal.returns
returns c = search (rows_end, arith)
