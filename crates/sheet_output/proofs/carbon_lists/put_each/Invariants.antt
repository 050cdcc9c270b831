use mathlib.Core.List.{map}
use lib.ListN.{take}
use Rattle.writer.specs.emit.Text.{Written, decimal}
use Rattle.reading_rules.specs.reading.Parting.{joined}
use Rattle.sheet_output.proofs.carbon_lists.put_each.Given as goal

abbrev pub invariant-loop-i : goal.invariant-loop-i
invariant-loop-i l = Written l.initial.out l.at (joined 46 (map decimal (take l.i l.indices))) l.out l.p
