use native.Mathlib.Omega.{arith}
use lib.ListN.{length-set}
use Rattle.chain_pieces.proofs.branches.Laws.{oxo-stored}
use Rattle.chain_pieces.proofs.branches.put_oxo.Goals as goal

pub bounds-out-at-then-out-at-ge4 : goal.bounds-out-at-then-out-at-ge4
bounds-out-at-then-out-at-ge4 c = simp length-set (omega arith)

pub bounds-out-at-then-out-at-ge4-2 : goal.bounds-out-at-then-out-at-ge4-2
bounds-out-at-then-out-at-ge4-2 c = simp length-set (omega arith)

pub bounds-out-at-then-out-at-ge4-3 : goal.bounds-out-at-then-out-at-ge4-3
bounds-out-at-then-out-at-ge4-3 c = simp length-set (omega arith)

pub returns-then-out-at-ge4 : goal.returns-then-out-at-ge4
returns-then-out-at-ge4 c = oxo-stored _ _ (omega arith) (omega arith)
