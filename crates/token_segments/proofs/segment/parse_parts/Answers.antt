use native.Mathlib.Omega.{arith}
use Rattle.token_segments.proofs.segment.Laws.{parting-start, part-stop, part-last, part-more}
use borrow.Author.Rules.{rules}
use Rattle.token_segments.proofs.segment.parse_parts.Goals as goal

pub loop-so_far-init : goal.loop-so_far-init
loop-so_far-init c = (search parting-start, omega arith)

pub returns-in_err-so_far : goal.returns-in_err-so_far
returns-in_err-so_far c = search (part-stop, c.in_err-so_far.was, c.from_residual.ensures)

pub returns-then-n-t : goal.returns-then-n-t
returns-then-n-t c = search (part-last, c.in_ok-so_far.was)

pub loop-so_far-preserved : goal.loop-so_far-preserved
loop-so_far-preserved c = (search (part-more, c.in_ok-so_far.was), search rules)
