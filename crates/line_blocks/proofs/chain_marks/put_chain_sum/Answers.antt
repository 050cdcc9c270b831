use native.Mathlib.Omega.{arith}
use Rattle.line_blocks.proofs.chain_marks.Marks.{sum-none, sum-put}
use Rattle.line_blocks.proofs.chain_marks.put_chain_sum.Goals as goal

pub returns-then-n-eq0 : goal.returns-then-n-eq0
returns-then-n-eq0 c = search (sum-none, arith)

pub returns : goal.returns
returns c = search sum-put
