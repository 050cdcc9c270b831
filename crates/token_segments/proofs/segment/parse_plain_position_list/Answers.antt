use native.Mathlib.Omega.{arith}
use Rattle.token_head.proofs.positions.Each.{each_none, each_start}
use Rattle.token_segments.specs.segment.Segment.{plain_list}
use Rattle.token_segments.proofs.segment.Laws.{turn-stop, turn_last, turn_more}
use borrow.Author.Rules.{rules}
use Rattle.token_segments.proofs.segment.parse_plain_position_list.Goals as goal

pub returns-then-s-eq0 : goal.returns-then-s-eq0
unfolding plain_list
returns-then-s-eq0 c = search each_none

pub loop-so_far-init : goal.loop-so_far-init
unfolding plain_list
loop-so_far-init c = (search each_start, omega arith)

pub returns-in_err-so_far : goal.returns-in_err-so_far
returns-in_err-so_far c = search (turn-stop, c.in_err-so_far.was, c.from_residual.ensures)

pub returns-then-n-t : goal.returns-then-n-t
returns-then-n-t c = search (turn_last, c.in_ok-so_far.was)

pub loop-so_far-preserved : goal.loop-so_far-preserved
loop-so_far-preserved c = (search (turn_more, c.in_ok-so_far.was), search rules)
