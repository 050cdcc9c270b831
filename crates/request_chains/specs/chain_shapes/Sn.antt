-- The chain of an sn. Assumes nothing.
use Rattle.std.specs.Prelude.{ℕ, zero, suc, ◌≡◌, List, [], ◌∷◌}
use Rattle.std.proofs.Math.Option.{Option, none, some}
use Rattle.drawn_chain.specs.declared.drawable.Shape.{Shape}
use Rattle.drawn_chain.specs.declared.rooms.Lists.{Lists}
use Rattle.drawn_chain.specs.drawable.Drawn.{Drawn, drawn_of}
use Rattle.drawn_chain.specs.drawable.Chains.{Chains, drawn_in, part_of}
use Rattle.request_chains.specs.chain_shapes.Shapes.{chains_kept}

-- the chain with this sn, if there is one
unfoldable pub drawn_at : ℕ → List Drawn → Option Drawn
drawn_at sn [] = none
drawn_at zero (x ∷ xs) = none
drawn_at (suc zero) (x ∷ xs) = some x
drawn_at (suc (suc sn)) (x ∷ xs) = drawn_at (suc sn) xs

abbrev pub IsDrawn : Option Drawn → Drawn → Type 0
IsDrawn none f = f.carbon ≡ 0
IsDrawn (some x) f = f ≡ x

-- f is the chain of an sn, or has no carbons where there is none
pub record ChainAt (x : Chains) (sn : ℕ) (f : Drawn) : Type 0 where
  pub is : IsDrawn (drawn_at sn (drawn_in x)) f

-- the chain of an sn is x with the lists of that sn, whatever array the lists stand in
pub record ShapeAt (n : ℕ) (xs : List Shape) (sn : ℕ) (x : Shape) : Type 0 where
  pub is : (l : List Lists) → ChainAt (chains_kept n xs l) sn (drawn_of x (part_of sn l))
