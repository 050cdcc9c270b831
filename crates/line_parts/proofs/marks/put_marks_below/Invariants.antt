use mathlib.Core.Path.{◌≡◌}
use mathlib.Core.List.{map}
use Rattle.writer.specs.emit.Text.{Written}
use Rattle.reading_rules.specs.reading.Show.{show_mark}
use Rattle.line_parts.specs.shown.Chained.{shown_blocks, still_first}
use Rattle.line_parts.specs.shown.Notes.{marks_below}
use Rattle.line_parts.proofs.marks.put_marks_below.Given as goal

abbrev pub invariant-loop-i : goal.invariant-loop-i
invariant-loop-i l =
    (l.lead ≡ still_first l.first (map show_mark (marks_below l.p l.v l.i))) × Written l.initial.out l.at (shown_blocks l.first (map show_mark (marks_below l.p l.v l.i))) l.out l.next
