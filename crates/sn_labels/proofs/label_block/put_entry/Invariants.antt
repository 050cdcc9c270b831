use mathlib.Core.Path.{◌≡◌}
use mathlib.Core.List.{[]}
use lib.ListN.{length, take, drop}
use Rattle.writer.specs.emit.Text.{Written}
use Rattle.reading_rules.specs.reading.Molecule.{look}
use Rattle.line_parts.specs.shown.Notes.{labels_of}
use Rattle.sn_labels.proofs.label_block.put_entry.Given as goal

abbrev pub invariant-loop-i : goal.invariant-loop-i
invariant-loop-i l =
    (look l.atom (labels_of (take l.count l.sites)) ≡ look l.atom (labels_of (drop l.i (take l.count l.sites)))) × (length l.sites ≡ 4) × Written l.initial.out l.at [] l.out l.at
