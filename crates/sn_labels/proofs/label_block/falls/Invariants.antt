use Prim.Native.Nat.{◌≤◌}
use mathlib.Core.Path.{◌≡◌}
use lib.ListN.{length, take, drop}
use Rattle.sn_labels.specs.label_block.Falling.{Under}
use Rattle.sn_labels.proofs.label_block.falls.Given as goal

abbrev pub invariant-loop-i : goal.invariant-loop-i
invariant-loop-i l =
    (l.n ≤ 4) × (length l.sites ≡ 4) × Under l.last (drop l.i (take l.n l.sites))
