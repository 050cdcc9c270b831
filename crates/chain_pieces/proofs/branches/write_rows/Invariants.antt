use lib.ListN.{drop}
use Rattle.chain_pieces.specs.branches.Text.{rows_in}
use Rattle.carbons.proofs.Left.{Left}
use Rattle.chain_pieces.proofs.branches.write_rows.Given as goal

abbrev pub invariant-loop-group : goal.invariant-loop-group
invariant-loop-group l = Left l.initial.rows l.at (rows_in l.groups) l.rows l.p (rows_in (drop l.group-index l.groups))
