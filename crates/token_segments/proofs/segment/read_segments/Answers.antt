use native.Mathlib.Omega.{arith}
use Rattle.scanner.proofs.reader.Laws.{part-order, part-within}
use Rattle.token_head.proofs.positions.Each.{onward-start}
use Rattle.token_segments.specs.segment.Segment.{segments}
use Rattle.token_segments.proofs.segment.Laws.{segments-stop, segments-last, segments-more, next-within, next-further}
use Rattle.token_segments.proofs.segment.read_segments.Goals as goal

pub loop-so_far-init : goal.loop-so_far-init
unfolding segments
loop-so_far-init c = (search onward-start, omega arith)

pub slice_bounds-parse_segment-count : goal.slice_bounds-parse_segment-count
slice_bounds-parse_segment-count c = search part-order

pub slice_bounds-parse_segment-start : goal.slice_bounds-parse_segment-start
slice_bounds-parse_segment-start c = search part-order

pub slice_bounds-parse_segment-end : goal.slice_bounds-parse_segment-end
slice_bounds-parse_segment-end c = search part-within

pub returns-in_err-so_far : goal.returns-in_err-so_far
returns-in_err-so_far c = search (segments-stop, c.in_err-so_far.was, c.from_residual.ensures)

pub returns-then-to-cursor : goal.returns-then-to-cursor
returns-then-to-cursor c = search (segments-last, c.in_ok-so_far.was)

pub loop-so_far-smaller : goal.loop-so_far-smaller
loop-so_far-smaller c = search next-further

pub loop-so_far-preserved : goal.loop-so_far-preserved
loop-so_far-preserved c = (search (segments-more, c.in_ok-so_far.was), search next-within)
