use borrow.Author.Rules.{rules}
use native.Mathlib.Omega.{arith}
use Rattle.chain_pieces.proofs.runs.Laws.{links-none, through-four, four-room, links-size}
use Rattle.chain_pieces.proofs.runs.link_fours.Goals as goal

pub loop-j-init : goal.loop-j-init
loop-j-init c = (search rules, search rules, search rules, search rules, search (links-none, arith))

pub put_four-p-requires : goal.put_four-p-requires
put_four-p-requires c = (search (four-room, arith), omega arith, omega arith)

pub loop-j-preserved : goal.loop-j-preserved
loop-j-preserved c = (search rules, search rules, search rules, search rules, search (through-four, arith))

pub shape_of-out : goal.shape_of-out
shape_of-out c = search links-size
