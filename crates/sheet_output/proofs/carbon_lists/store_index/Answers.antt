use native.Mathlib.Omega.{arith}
use lib.ListN.{length-set}
use Rattle.sheet_output.proofs.carbon_lists.Stored.{stored-first, stored_next, stored-length}
use Rattle.sheet_output.proofs.carbon_lists.store_index.Goals as goal

pub store_number-requires : goal.store_number-requires
store_number-requires c = simp length-set (omega arith)

pub shape_of-out-then-more : goal.shape_of-out-then-more
shape_of-out-then-more c = search stored-length

pub returns-then-more : goal.returns-then-more
returns-then-more c = search (stored_next, arith)

pub returns : goal.returns
returns c = search stored-first
