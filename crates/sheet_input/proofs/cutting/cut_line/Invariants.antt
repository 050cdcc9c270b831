use Prim.Native.Nat.{◌≤◌}
use mathlib.Core.Path.{◌≡◌}
use lib.ListN.{length}
use Rattle.sheet_input.proofs.cutting.LineLaws.{Along}
use Rattle.sheet_input.proofs.cutting.cut_line.Given as goal

abbrev pub invariant-loop-i : goal.invariant-loop-i
invariant-loop-i l = Along l.text l.starts l.i l.n × (l.i ≤ length l.text) × (l.n ≤ l.i) × (length l.starts ≡ length l.initial.starts)
