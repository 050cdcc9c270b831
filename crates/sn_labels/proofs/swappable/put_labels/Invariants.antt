use mathlib.Core.Path.{◌≡◌}
use mathlib.Core.List.{map}
use lib.ListN.{length, take}
use Rattle.writer.specs.emit.Text.{Written}
use Rattle.reading_rules.specs.reading.Parting.{joined}
use Rattle.reading_rules.specs.reading.Molecule.{notes_of}
use Rattle.reading_rules.specs.reading.Show.{show_label}
use Rattle.line_parts.specs.shown.Notes.{labels_of}
use Rattle.sn_labels.proofs.swappable.put_labels.Given as goal

abbrev pub invariant-loop-i : goal.invariant-loop-i
invariant-loop-i l =
    (length l.sites ≡ 4) × Written l.initial.out l.at (joined 44 (map show_label (notes_of (labels_of (take l.i l.sites))))) l.out l.p
