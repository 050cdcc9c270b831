-- Sites whose atoms fall. Assumes nothing.
use Rattle.std.specs.Prelude.{ℕ, ◌<◌, ◌≡◌, Bool, true, List, [], ◌∷◌}
use Rattle.line_parts.specs.declared.shown.Site.{Site}

-- the atoms of some sites fall from below m on
unfoldable pub Under : ℕ → List Site → Type 0
Under m [] = Unit {0}
Under m (s ∷ l) = (s.atom < m) × Under s.atom l

unfoldable pub Falling : List Site → Type 0
unfolding Under
Falling [] = Unit {0}
Falling (s ∷ l) = Under s.atom l

-- they do, where r says so
pub record FallTold (l : List Site) (r : Bool) : Type 0 where
  pub told : r ≡ true → Falling l
