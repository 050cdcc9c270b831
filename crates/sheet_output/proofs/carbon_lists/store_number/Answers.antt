use native.Mathlib.Omega.{arith}
use lib.ListN.{length-set}
use Rattle.sheet_output.proofs.carbon_lists.Stored.{stored_one, stored-two, stored-three, stored-many}
use Rattle.sheet_output.proofs.carbon_lists.store_number.Goals as goal

pub returns-then-n-lt10 : goal.returns-then-n-lt10
returns-then-n-lt10 c = search (stored_one, arith)

pub bounds-out-at-then-n-lt100-2 : goal.bounds-out-at-then-n-lt100-2
bounds-out-at-then-n-lt100-2 c = simp length-set (omega arith)

pub returns-then-n-lt100 : goal.returns-then-n-lt100
returns-then-n-lt100 c = search (stored-two, arith)

pub bounds-out-at-then-n-lt1000-2 : goal.bounds-out-at-then-n-lt1000-2
bounds-out-at-then-n-lt1000-2 c = simp length-set (omega arith)

pub bounds-out-at-then-n-lt1000-3 : goal.bounds-out-at-then-n-lt1000-3
bounds-out-at-then-n-lt1000-3 c = simp length-set (omega arith)

pub returns-then-n-lt1000 : goal.returns-then-n-lt1000
returns-then-n-lt1000 c = search (stored-three, arith)

pub returns : goal.returns
returns c = search (stored-many, arith)
