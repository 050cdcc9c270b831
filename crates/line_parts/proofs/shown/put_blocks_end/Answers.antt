use native.Mathlib.Omega.{arith}
use Rattle.reading_rules.specs.reading.Ascii.{ascii}
use Rattle.line_parts.proofs.shown.Laws.{end-any, end_none}
use Rattle.line_parts.proofs.shown.put_blocks_end.Goals as goal

pub returns-then-any : goal.returns-then-any
unfolding ascii
returns-then-any c = search end-any

pub returns : goal.returns
returns c = search (end_none, arith)
