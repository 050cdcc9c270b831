-- Laws of the chains that numbers and lists say; and how many groups of each sort such a chain has at most.
-- Assumes nothing.
use Prim.Native.Nat.{suc, ◌≤◌, min}
use native.Mathlib.Omega.{arith}
use mathlib.Core.Path.{◌≡◌, refl, ap}
use mathlib.Core.List.{List, [], ◌∷◌}
use lib.ListN.{length, take, drop, length-take}
use Rattle.drawn_chain.specs.declared.drawable.Shape.{Shape}
use Rattle.drawn_chain.specs.declared.rooms.Lists.{Lists}
use Rattle.drawn_chain.specs.drawable.Drawn.{drawn_of, groups_drawn, floats_drawn}
use Rattle.drawn_chain.specs.drawable.Chains.{items_of}

-- ---- the chains that parts say

pub items-length : (xs : List Shape) (l : List Lists) → length (items_of xs l) ≡ length xs
unfolding items_of
items-length [] l = refl
items-length (x ∷ xs) l = ap suc (items-length xs (drop 1 l))

-- ---- how many groups a drawn chain has at most, by its definition

module _ (x : Shape) (l : Lists) where
  pub groups-few : length (groups_drawn (drawn_of x l)) ≤ 18
  groups-few = omega (arith, length-take x.group_count (take 18 l.groups), length-take 18 l.groups)

  pub floats-few : length (floats_drawn (drawn_of x l)) ≤ min x.float_count 18
  floats-few = omega (arith, length-take x.float_count (take 18 l.floats), length-take 18 l.floats)
