use lib.ListN.{take}
use Rattle.writer.specs.emit.Text.{Written}
use Rattle.sheet_frame.specs.tally.Counts.{count_lines_from}
use Rattle.sheet_frame.proofs.tally.put_count_lines.Given as goal

abbrev pub invariant-loop-answer : goal.invariant-loop-answer
invariant-loop-answer l = Written l.initial.out l.at (count_lines_from 0 (take l.answer l.n-items)) l.out l.p
