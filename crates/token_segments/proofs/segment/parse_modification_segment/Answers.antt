use Rattle.token_segments.proofs.segment.Laws.{as-ring, as-repeated, as-listed, as_parts}
use Rattle.token_syntax.proofs.form.Laws.{ring-dash, ring-cy, listed-place}
use Rattle.token_segments.proofs.segment.parse_modification_segment.Goals as goal

pub parse_ring_segment-requires : goal.parse_ring_segment-requires
parse_ring_segment-requires c = (search ring-dash, search ring-cy)

pub slice_bounds-parse_listed_segment-end : goal.slice_bounds-parse_listed_segment-end
slice_bounds-parse_listed_segment-end c = search listed-place

pub returns-in-Ring : goal.returns-in-Ring
returns-in-Ring c = search as-ring

pub returns-in-Repeated : goal.returns-in-Repeated
returns-in-Repeated c = search as-repeated

pub returns-in-Listed : goal.returns-in-Listed
returns-in-Listed c = search as-listed

pub returns-in-Parts : goal.returns-in-Parts
returns-in-Parts c = search as_parts
