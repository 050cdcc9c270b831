use Prim.Native.Nat.{◌≤◌}
use mathlib.Core.Path.{◌≡◌}
use lib.ListN.{length, take, drop}
use Rattle.writer.specs.emit.Text.{Written}
use Rattle.line_parts.specs.shown.Notes.{Digits}
use Rattle.sn_labels.specs.label_block.Falling.{Falling}
use Rattle.sn_labels.proofs.label_block.FallingLaws.{top_atom, fall_text}
use Rattle.sn_labels.proofs.label_block.put_falling.Given as goal

abbrev pub invariant-loop-i : goal.invariant-loop-i
invariant-loop-i l =
    (l.count ≤ 4) × (length l.sites ≡ 4) × Digits (take l.count l.sites) × Falling (take l.count l.sites)
    × (l.from ≡ top_atom (drop l.i (take l.count l.sites))) × Written l.initial.out l.at (fall_text (drop l.i (take l.count l.sites))) l.out l.p
