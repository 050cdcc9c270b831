use Prim.Native.Nat.{◌-◌, ◌≤◌}
use lib.ListN.{take}
use Rattle.writer.specs.emit.Text.{Written}
use Rattle.line_parts.specs.shown.Notes.{labels_of}
use Rattle.sn_labels.proofs.label_block.Laws.{closed}
use Rattle.sn_labels.proofs.label_block.put_through.Given as goal

abbrev pub invariant-loop-atom : goal.invariant-loop-atom
invariant-loop-atom l =
    (l.atom ≤ l.last) × Written l.initial.out l.at (closed l.atom (labels_of (take l.count l.sites))) l.out l.p

abbrev pub decreases-loop-atom : goal.decreases-loop-atom
decreases-loop-atom l = l.last - l.atom
