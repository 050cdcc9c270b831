-- The chains of a line by rising sn, as their places in it. Assumes nothing.
use Rattle.std.specs.Prelude.{ℕ, zero, suc, ◌-◌, ◌≤◌, ◌<◌, ◌≡◌, Bool, true, cond, List, [], ◌∷◌, ◌++◌, map, eqb, take, drop}
use Rattle.placement.specs.declared.chain_notes.Placed.{Placed}
use Rattle.placement.specs.chain_notes.Fragment.{gathered}
use Rattle.chain_lists.specs.declared.rising.Rising.{Rising}

unfoldable pub sns_of : List Placed → List ℕ
sns_of ps = map (λ p. p.sn) ps

-- the places of an sn among some sns, the first of which stands at place i
unfoldable pub places_of : ℕ → ℕ → List ℕ → List ℕ
places_of sn i [] = []
places_of sn i (n ∷ ns) = cond (eqb n sn) (i ∷ places_of sn (suc i) ns) (places_of sn (suc i) ns)

-- those of m sns from k on
unfoldable pub places_from : ℕ → ℕ → List ℕ → List ℕ
unfolding places_of
places_from k zero ns = []
places_from k (suc m) ns = places_of k 0 ns ++ places_from (suc k) m ns

-- what a list has at some places; past its end it has nothing
unfoldable pub picked : {A : Type 0} → List A → List ℕ → List A
unfolding gathered
picked l ks = gathered (λ k. take 1 (drop k l)) ks

-- ---- in an array

abbrev pub places_in : Rising → List ℕ
places_in r = take r.count r.items

-- r holds the places of these chains by rising sn, and no others: none is left out
pub record InOrder (ps : List Placed) (r : Rising) : Type 0 where
  pub room : r.count ≤ 4
  pub held : places_in r ≡ places_from 1 4 (sns_of ps)

-- ---- while they are gathered

-- numbers that fall from below m on, none of them 0
unfoldable pub Falling : ℕ → List ℕ → Type 0
Falling m [] = Unit {0}
Falling m (n ∷ ns) = (n < m) × (1 ≤ n) × Falling n ns

-- the sns of these chains fall, from 4 at most, where r says so
pub record Falls (ps : List Placed) (r : Bool) : Type 0 where
  pub told : r ≡ true → Falling 5 (sns_of ps)

-- n places from the last on; zero stands past them
abbrev pub from_last : ℕ → Rising
from_last n = record { count = n; items = (n - 1) ∷ (n - 2) ∷ (n - 3) ∷ 0 ∷ [] }
