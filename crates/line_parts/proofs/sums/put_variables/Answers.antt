use native.Mathlib.Omega.{arith}
use Rattle.writer.proofs.emit.Laws.{written-nil}
use Rattle.reading_rules.specs.reading.Parting.{joined}
use Rattle.line_parts.specs.shown.Notes.{numbers_from}
use Rattle.line_parts.proofs.sums.Laws.{variables-more}
use Rattle.line_parts.proofs.sums.put_variables.Goals as goal

pub loop-i-init : goal.loop-i-init
unfolding joined numbers_from
loop-i-init c = written-nil _ _ (omega arith)

pub loop-i-preserved : goal.loop-i-preserved
loop-i-preserved c = search (variables-more, arith)
