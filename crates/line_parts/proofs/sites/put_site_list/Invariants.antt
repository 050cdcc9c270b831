use mathlib.Core.List.{map}
use lib.ListN.{take}
use Rattle.writer.specs.emit.Text.{Written, decimal}
use Rattle.reading_rules.specs.reading.Parting.{joined}
use Rattle.line_parts.proofs.sites.put_site_list.Given as goal

abbrev pub invariant-loop-place : goal.invariant-loop-place
invariant-loop-place l =
    Written l.initial.out l.at (joined 46 (map decimal (take l.place l.sites))) l.out l.p
