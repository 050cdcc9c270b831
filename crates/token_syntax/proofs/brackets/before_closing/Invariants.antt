use Prim.Native.Nat.{◌≤◌}
use mathlib.Core.Path.{◌≡◌}
use lib.ListN.{length, take}
use Rattle.token_syntax.specs.brackets.Brackets.{before_closing}
use Rattle.token_syntax.proofs.brackets.before_closing.Given as goal

abbrev pub invariant-loop-n : goal.invariant-loop-n
invariant-loop-n l = (before_closing l.s ≡ before_closing (take l.n l.s)) × (l.n ≤ length l.s)

abbrev pub decreases-loop-n : goal.decreases-loop-n
decreases-loop-n l = l.n
