use borrow.Author.Rules.{rules}
use native.Mathlib.Omega.{arith}
use Rattle.chain_pieces.proofs.runs.Laws.{links-none, links-more, four-room, links-size}
use Rattle.chain_pieces.proofs.runs.put_fours.Goals as goal

pub loop-j-init : goal.loop-j-init
loop-j-init c = (search rules, search rules, search rules, search rules, search rules, search (links-none, arith))

pub shape_of-out-then-word-ne0 : goal.shape_of-out-then-word-ne0
shape_of-out-then-word-ne0 c = search links-size

pub put_four-p-requires : goal.put_four-p-requires
put_four-p-requires c = (search (four-room, arith), omega arith, omega arith)

pub loop-j-preserved : goal.loop-j-preserved
loop-j-preserved c =
    let more = links-more _ _ _ _ c.loop-j.invariant.5 _ (omega arith) c.loop-j-test.true c.word.ensures c.if-word-ne0.false c.put_four-p.ensures in
    (search rules, search rules, search rules, search rules, search rules, more)

pub shape_of-out : goal.shape_of-out
shape_of-out c = search links-size
