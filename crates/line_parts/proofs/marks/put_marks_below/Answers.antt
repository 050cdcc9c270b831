use mathlib.Core.Path.{refl}
use native.Mathlib.Omega.{arith}
use Rattle.writer.proofs.emit.Laws.{written-nil}
use Rattle.line_parts.specs.shown.Chained.{chained, shown, still_first}
use Rattle.line_parts.specs.shown.Notes.{marks_below}
use Rattle.line_parts.proofs.marks.Laws.{marks-more, marks-lead}
use Rattle.line_parts.proofs.marks.put_marks_below.Goals as goal

pub loop-i-init : goal.loop-i-init
unfolding still_first marks_below shown chained
loop-i-init c = (refl, written-nil _ _ (omega arith))

pub loop-i-preserved : goal.loop-i-preserved
loop-i-preserved c = (marks-lead _ _ _ _, search (marks-more, arith))
