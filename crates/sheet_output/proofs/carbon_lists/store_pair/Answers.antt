use native.Mathlib.Omega.{arith}
use lib.ListN.{length-set}
use Rattle.sheet_output.proofs.carbon_lists.Stored.{pair-stored, pair-high}
use Rattle.sheet_output.proofs.carbon_lists.store_pair.Goals as goal

pub bounds-out-at-2 : goal.bounds-out-at-2
bounds-out-at-2 c = simp length-set (omega arith)

pub overflow_cast-out-2 : goal.overflow_cast-out-2
overflow_cast-out-2 c = search pair-high

pub bounds-out-at-3 : goal.bounds-out-at-3
bounds-out-at-3 c = simp length-set (omega arith)

pub returns : goal.returns
returns c = search pair-stored
