use Rattle.sheet_frame.proofs.tally.Laws.{lines_more, lines-all}
use native.Mathlib.Omega.{arith}
use Rattle.writer.proofs.emit.Laws.{written-nil}
use Rattle.sheet_frame.specs.tally.Counts.{count_lines_from}
use Rattle.sheet_frame.proofs.tally.put_count_lines.Goals as goal

pub loop-answer-init : goal.loop-answer-init
unfolding count_lines_from
loop-answer-init c = written-nil _ _ (omega arith)

pub loop-answer-preserved : goal.loop-answer-preserved
loop-answer-preserved c = lines_more _ _ (omega arith) (omega arith) c.loop-answer.invariant c.put_count_line-p.ensures

pub returns : goal.returns
returns c = lines-all _ _ (omega arith) c.loop-answer.invariant
