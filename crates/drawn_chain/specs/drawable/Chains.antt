-- The chains of a request as they are drawn. Assumes nothing.
use Rattle.std.specs.Prelude.{ℕ, List, [], ◌∷◌, take, drop, get_or}
pub use Rattle.drawn_chain.specs.rooms.Ranges.{part_of}
use Rattle.drawn_chain.specs.declared.drawable.Shape.{Shape}
use Rattle.drawn_chain.specs.declared.rooms.Lists.{Lists}
use Rattle.drawn_chain.specs.declared.rooms.TheConstants.{NO_LISTS}
use Rattle.drawn_chain.specs.drawable.Drawn.{Drawn, drawn_of}

-- drawn chains, and how many of them count
pub record Chains : Type 0 where
  pub count : ℕ
  pub items : List Drawn

-- those that count
unfoldable pub drawn_in : Chains → List Drawn
drawn_in x = take x.count x.items

-- the chains of numbers and lists, one by one
unfoldable pub items_of : List Shape → List Lists → List Drawn
items_of [] l = []
items_of (x ∷ xs) l = drawn_of x (get_or l 0 NO_LISTS) ∷ items_of xs (drop 1 l)
