-- src/lib.rt:110:9
use Rattle.sheet_output.proofs.rows.Laws.{rest-text}
use native.Mathlib.Omega.{arith}
use borrow.Author.Rules.{rules}
use Rattle.sheet_output.proofs.rows.put_rest.Goals as goal

pub put-p-requires : goal.put-p-requires
put-p-requires c = search rules

-- src/lib.rt:111:9

pub put_chains-q-requires : goal.put_chains-q-requires
put_chains-q-requires c = search rules

-- src/lib.rt:112:5

pub put-requires : goal.put-requires
put-requires c = search rules

-- src/lib.rt:106:1

pub shape_of-out : goal.shape_of-out
shape_of-out c = search rules

-- src/lib.rt:106:1

pub returns : goal.returns
returns c = search (rest-text, arith)
