use Rattle.reading_rules.specs.reading.Ascii.{ascii}
use native.Mathlib.Omega.{arith}
use Rattle.line_parts.proofs.marks.Laws.{mark-text}
use Rattle.line_parts.proofs.marks.put_mark_text.Goals as goal

pub returns : goal.returns
unfolding ascii
returns c = search (mark-text, arith)
