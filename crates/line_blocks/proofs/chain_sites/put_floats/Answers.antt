use native.Mathlib.Omega.{arith}
use Rattle.line_blocks.proofs.chain_marks.Put.{put-length}
use Rattle.line_blocks.proofs.chain_sites.Sites.{floats-start, floats-more, floats-all}
use Rattle.line_blocks.proofs.chain_sites.put_floats.Goals as goal

pub loop-row-init : goal.loop-row-init
loop-row-init c = floats-start _ _ _ _ _ (omega arith)

pub loop-row-preserved : goal.loop-row-preserved
loop-row-preserved c = search (floats-more, arith)

pub shape_of-out : goal.shape_of-out
shape_of-out c = search put-length

pub returns : goal.returns
returns c = search floats-all
