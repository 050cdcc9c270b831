use mathlib.Core.List.{map}
use Rattle.writer.specs.emit.Text.{Written}
use Rattle.reading_rules.specs.reading.Parting.{joined}
use Rattle.reading_rules.specs.reading.Names.{name_of}
use Rattle.line_parts.specs.shown.Notes.{numbers_from}
use Rattle.line_parts.proofs.sums.put_variables.Given as goal

abbrev pub invariant-loop-i : goal.invariant-loop-i
invariant-loop-i l =
    Written l.initial.out l.at (joined 43 (map name_of (numbers_from l.v l.i))) l.out l.p
