use Rattle.token_reader.proofs.token.Laws.{list-room, with-list, without-list}
use Rattle.token_reader.proofs.token.parse_after_count.Goals as goal

pub slice_bounds-parse_listed-count : goal.slice_bounds-parse_listed-count
slice_bounds-parse_listed-count c = search list-room

pub slice_bounds-parse_listed-start : goal.slice_bounds-parse_listed-start
slice_bounds-parse_listed-start c = search list-room

pub returns-then-starts_with : goal.returns-then-starts_with
returns-then-starts_with c = search with-list

pub returns : goal.returns
returns c = search without-list
