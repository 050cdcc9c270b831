-- The index lists of chains at some places, by numbers alone. Assumes nothing.
use Rattle.std.specs.Prelude.{ℕ, ◌≤◌, ◌≡◌, List, [], ◌∷◌, take, drop}
use Rattle.placement.specs.declared.chain_notes.Placed.{Placed}
use Rattle.placement.specs.chain_notes.Fragment.{gathered, summed}
use Rattle.chain_lists.specs.rising.Order.{picked}

-- numbers that stand end to end, as many for each chain as it has indices
unfoldable pub parts_of : List Placed → List ℕ → List (List ℕ)
parts_of [] numbers = []
parts_of (p ∷ ps) numbers = take p.count numbers ∷ parts_of ps (drop p.count numbers)

-- those of the chains at some places, end to end
unfoldable pub indices_at : List Placed → List ℕ → List ℕ → List ℕ
unfolding gathered picked parts_of
indices_at ps numbers ks = gathered (λ (is : List ℕ). is) (picked (parts_of ps numbers) ks)

-- n is where those of the chain at place k start
pub record Starts (ps : List Placed) (k n : ℕ) : Type 0 where
  pub is : n ≡ summed (λ (p : Placed). p.count) (take k ps)
  pub few : n ≤ 262140
