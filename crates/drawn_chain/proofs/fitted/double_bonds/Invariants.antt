use Prim.Native.Nat.{◌+◌, ◌-◌}
use mathlib.Core.Path.{◌≡◌}
use mathlib.Core.List.{[], ◌∷◌, ◌++◌}
use lib.ListN.{length, take}
use Rattle.drawn_chain.specs.drawable.Drawn.{bonds_in}
use Rattle.drawn_chain.specs.fitted.Fitted.{alkenyl}
use Rattle.drawn_chain.proofs.fitted.double_bonds.Given as goal

abbrev pub invariant-loop-i : goal.invariant-loop-i
invariant-loop-i l = (bonds_in (l.added + l.i) l.bonds ≡ take l.added (alkenyl ∷ []) ++ bonds_in l.i l.written) × (length l.bonds ≡ 33)

abbrev pub decreases-loop-i : goal.decreases-loop-i
decreases-loop-i l = l.n - l.i
