use mathlib.Core.Path.{◌≡◌}
use lib.ListN.{length, take}
use Rattle.reading_rules.specs.reading.Show.{up_to_last}
use Rattle.line_parts.specs.shown.Notes.{labels_of}
use Rattle.sn_labels.proofs.label_block.label_end.Given as goal

abbrev pub invariant-loop-i : goal.invariant-loop-i
invariant-loop-i l =
    (l.end ≡ up_to_last (labels_of (take l.i l.sites))) × (length l.sites ≡ 4)
