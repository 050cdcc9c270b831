-- 01, Token reader, Seats: "missing bonds need c ≥ 4 and each a free seat in 2..c−1, neither it nor a neighbour used by a position of the
-- `(..)` list or a seat. Look upward from max(2, min(9, c−1)), past c−1 back to 2; after p start from p + 3. Only their number n survives."
-- Assumes nothing.
use Rattle.std.specs.Prelude.{ℕ, zero, suc, ◌+◌, ◌-◌, ◌≤◌, ◌<◌, min, max, ◌≡◌, List, [], ◌∷◌, Bool, true, false, not, cond, get_or, length, set, eqb, ltb, Option, Some, None}
use Rattle.std.specs.Option.{option_or}
use Rattle.chain_record.specs.plain.Chain.{max_carbons}
use Rattle.chain_record.specs.declared.plain.DbPos.{DbPos}

-- whether p is among some positions
unfoldable pub among : List ℕ → ℕ → Bool
among [] p = false
among (q ∷ qs) p = cond (eqb q p) true (among qs p)

-- the positions of double bonds
unfoldable pub positions : List DbPos → List ℕ
positions [] = []
positions (b ∷ bs) = b.pos ∷ positions bs

-- what is used, and p with it
unfoldable pub also : ℕ → (ℕ → Bool) → ℕ → Bool
also p used k = cond (eqb p k) true (used k)

-- neither p nor a neighbour is used
unfoldable pub free : (ℕ → Bool) → ℕ → Bool
free used p = cond (used p) false (cond (used (p - 1)) false (not (used (p + 1))))

-- what each answer says of the seats from..to−1, beside what is used: that p is one of them and free; that none of them is free. Where those
-- are all the seats of a chain, "seats fail" then, which is 11 (`finished` of the token reader)
abbrev pub Found : (ℕ → Bool) → ℕ → ℕ → Option ℕ → Type 0
Found used from to (Some p) = (from ≤ p) × (p < to) × (free used p ≡ true)
Found used from to None = (p : ℕ) → from ≤ p → p < to → free used p ≡ false

-- r is the seat s of a search, and a seat or none of those from..to−1
pub record SeatIs (used : ℕ → Bool) (from to : ℕ) (s r : Option ℕ) : Type 0 where
  pub is : r ≡ s
  pub found : Found used from to r

-- the first free of n seats, upward from p
unfoldable pub first_free : (ℕ → Bool) → ℕ → ℕ → Option ℕ
first_free used zero p = None
first_free used (suc n) p = let r = first_free used n (suc p) in cond (free used p) (Some p) r

-- upward from s, past c − 1 back to 2: the seats s..c−1, then 2..s−1; a start past c − 1 is 2
unfoldable pub seat_from : ℕ → (ℕ → Bool) → ℕ → Option ℕ
seat_from c used s =
    cond (ltb s c) (option_or (first_free used (c - s) s) (first_free used (s - 2) 2)) (first_free used (c - 2) 2)

-- a seat, and then what follows; none, and the seats fail
abbrev pub on_seat : Option ℕ → (ℕ → Bool) → Bool
on_seat (Some p) f = f p
on_seat None f = false

-- whether n bonds find a seat, from the start s on; after p from p + 3
unfoldable pub seats_from : ℕ → (ℕ → Bool) → ℕ → ℕ → Bool
seats_from c used s zero = true
seats_from c used s (suc n) = on_seat (seat_from c used s) (λ p. seats_from c (also p used) (p + 3) n)

unfoldable pub first_start : ℕ → ℕ
first_start c = max 2 (min 9 (c - 1))

-- whether n bonds find a seat on c carbons beside the positions ps
unfoldable pub seated : ℕ → List ℕ → ℕ → Bool
seated c ps n = cond (eqb n 0) true (cond (ltb c 4) false (seats_from c (among ps) (first_start c) n))

-- ---- the array of used positions

-- whether an array marks a position
abbrev pub used_in : List Bool → ℕ → Bool
used_in xs k = get_or xs k false

-- a place for each carbon and none marked
pub record NoMarks (xs : List Bool) : Type 0 where
  pub room : max_carbons < length xs
  pub clear : (k : ℕ) → used_in xs k ≡ false

-- ys marks what xs marks, and p, if it has a place
pub record Marks (xs : List Bool) (p : ℕ) (ys : List Bool) : Type 0 where
  pub marked : ys ≡ set xs p true

-- ys marks what xs marks, and each of ps that has a place
pub record MarksAll (xs : List Bool) (ps : List ℕ) (ys : List Bool) : Type 0 where
  pub same_length : length ys ≡ length xs
  pub marked : (k : ℕ) → k < length xs → used_in ys k ≡ cond (among ps k) true (used_in xs k)

-- the answer r on c carbons; no more bonds are seated than a token may write carbons
pub record Seated (c : ℕ) (ps : List ℕ) (n : ℕ) (r : Bool) : Type 0 where
  pub is : r ≡ seated c ps n
  pub few : r ≡ true → n ≤ max_carbons
