use native.Mathlib.Omega.{arith}
use borrow.Author.Rules.{rules}
use Rattle.line_blocks.proofs.chain_marks.Put.{put-length, places-are}
use Rattle.line_blocks.proofs.chain_sites.Sites.{sites-start, sites-more, sites-all}
use Rattle.line_blocks.proofs.chain_sites.put_all_sites.Goals as goal

pub loop-p-init : goal.loop-p-init
loop-p-init c = sites-start _ _ _ _ _ (omega arith)

pub loop-p-preserved : goal.loop-p-preserved
loop-p-preserved c = sites-more _ _ (omega arith) c.loop-p-test.true (omega arith) (omega arith) c.loop-p.invariant c.put_chain_sites-c.ensures

pub shape_of-out : goal.shape_of-out
shape_of-out c = search put-length

pub returns : goal.returns
returns c = sites-all _ (places-are _ _ _ _ (search rules) c.in_places-n.ensures c.loop-p-test.false) c.loop-p.invariant
