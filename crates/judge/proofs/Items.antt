-- Laws of the chains whose lists stand in one array: lists laid behind them leave them as they are.
-- Assumes nothing.
use Prim.Native.Nat.{ℕ, zero, suc, ◌<◌}
use native.Mathlib.Omega.{arith}
use mathlib.Core.Path.{◌≡◌, refl, ap}
use mathlib.Core.List.{List, [], ◌∷◌, ◌++◌}
use lib.ListN.{length, take, set}
use Rattle.drawn_chain.specs.declared.drawable.Shape.{Shape}
use Rattle.drawn_chain.specs.declared.rooms.Lists.{Lists}
use Rattle.drawn_chain.specs.drawable.Drawn.{Drawn, drawn_of}
use Rattle.drawn_chain.specs.drawable.Chains.{items_of}

-- one chain more, its lists in the place that was lent for them
pub items-next : (i : ℕ) (x : Shape) (xs : List Shape) (l : List Lists) (p : Lists) → i < length xs → i < length l → take (suc i) (items_of (set xs i x) (set l i p)) ≡ take i (items_of xs l) ++ (drawn_of x p ∷ [])
unfolding items_of
items-next i x [] l p h k = absurd (omega arith)
items-next i x (y ∷ xs) [] p h k = absurd (omega arith)
items-next zero x (y ∷ xs) (q ∷ l) p h k = refl
items-next (suc i) x (y ∷ xs) (q ∷ l) p h k = ap (λ (z : List Drawn). drawn_of y q ∷ z) (items-next i x xs l p (omega arith) (omega arith))
