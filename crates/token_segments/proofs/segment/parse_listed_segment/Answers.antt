use Rattle.token_segments.proofs.segment.Laws.{listed-open, listed-closed}
use Rattle.token_syntax.proofs.form.Laws.{parenthesis-room}
use Rattle.token_segments.proofs.segment.parse_listed_segment.Goals as goal

pub returns-then-not-ends_in_parenthesis : goal.returns-then-not-ends_in_parenthesis
returns-then-not-ends_in_parenthesis c = search listed-open

pub overflow_sub-s : goal.overflow_sub-s
overflow_sub-s c = search parenthesis-room

pub returns : goal.returns
returns c = search listed-closed
