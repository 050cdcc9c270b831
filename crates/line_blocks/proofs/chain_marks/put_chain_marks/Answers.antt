use native.Mathlib.Omega.{arith}
use Rattle.line_blocks.proofs.chain_marks.Marks.{marks-none, marks-put}
use Rattle.line_blocks.proofs.chain_marks.put_chain_marks.Goals as goal

pub returns-then-n-eq0 : goal.returns-then-n-eq0
returns-then-n-eq0 c = search (marks-none, arith)

pub returns : goal.returns
returns c = search marks-put
