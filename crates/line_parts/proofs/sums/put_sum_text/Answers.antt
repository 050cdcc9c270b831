use Rattle.reading_rules.specs.reading.Ascii.{ascii}
use native.Mathlib.Omega.{arith}
use Rattle.line_parts.proofs.sums.Laws.{sum-text}
use Rattle.line_parts.proofs.sums.put_sum_text.Goals as goal

pub returns : goal.returns
unfolding ascii
returns c = search (sum-text, arith)
