use native.Mathlib.Omega.{arith}
use borrow.Author.Rules.{rules}
use Rattle.placement.specs.chain_notes.Fragment.{gathered}
use Rattle.line_blocks.specs.chain_marks.Marks.{sums_in}
use Rattle.line_blocks.proofs.chain_marks.Put.{put-none, put-length, places-are}
use Rattle.line_blocks.proofs.chain_marks.Marks.{sums-more}
use Rattle.line_blocks.proofs.chain_marks.put_all_sums.Goals as goal

pub loop-p-init : goal.loop-p-init
unfolding gathered sums_in
loop-p-init c = put-none _ _ _ _ (omega arith)

pub loop-p-preserved : goal.loop-p-preserved
loop-p-preserved c = sums-more _ _ _ c.loop-p-test.true c.loop-p.invariant c.put_chain_sum-b.ensures (omega arith)

pub shape_of-out : goal.shape_of-out
shape_of-out c = search put-length

pub returns : goal.returns
returns c = rw (places-are _ _ _ _ (search rules) c.in_places-n.ensures c.loop-p-test.false) at c.loop-p.invariant
