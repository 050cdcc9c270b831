use borrow.Author.Rules.{rules}
use native.Mathlib.Omega.{arith}
use Rattle.chain_pieces.proofs.runs.Laws.{links-none, links-one, one-room, links-size}
use Rattle.chain_pieces.proofs.runs.put_ones.Goals as goal

pub loop-j-init : goal.loop-j-init
loop-j-init c = (search rules, search rules, search rules, search rules, search rules, search (links-none, arith))

pub shape_of-out-then-busy-j-ne0 : goal.shape_of-out-then-busy-j-ne0
shape_of-out-then-busy-j-ne0 c = search links-size

pub put_link-p-requires : goal.put_link-p-requires
put_link-p-requires c = search (one-room, arith)

pub loop-j-preserved : goal.loop-j-preserved
loop-j-preserved c = (search rules, search rules, search rules, search rules, search rules, search (links-one, arith))

pub shape_of-out : goal.shape_of-out
shape_of-out c = search links-size
