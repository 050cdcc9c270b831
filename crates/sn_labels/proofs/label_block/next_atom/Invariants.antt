use mathlib.Core.Path.{◌≡◌}
use lib.ListN.{length, take}
use Rattle.line_parts.specs.shown.Notes.{labels_of}
use Rattle.sn_labels.specs.label_block.Gaps.{Gap}
use Rattle.sn_labels.proofs.label_block.next_atom.Given as goal

abbrev pub invariant-loop-i : goal.invariant-loop-i
invariant-loop-i l =
    (length l.sites ≡ 4) × Gap l.atom l.last (labels_of (take l.i l.sites)) l.next
