-- What the writers leave in a lent slice: a text at a place, the place after it, and a number's decimal digits. Assumes nothing.
use Rattle.std.specs.Prelude.{ℕ, zero, suc, ◌+◌, ◌/◌, ◌%◌, min, ◌≡◌, List, [], ◌∷◌, ◌++◌, Bool, true, false, length, ltb}
use Rattle.std.proofs.lemmas.List.Edits.{sets}

-- the place n further on; it stays at the largest number that a `usize` holds
abbrev pub after : ℕ → ℕ → ℕ
after at n = min (at + n) 18446744073709551615

-- ys is xs with the elements of ts stored one by one from the place `at` on, those past the end dropped, and r is the place after them.
-- `sets` is the library's: `sets xs at (t ∷ ts)` is `sets (set xs at t) (suc at) ts`, and `set` past the end changes nothing.
pub record Written {A : Type 0} (xs : List A) (at : ℕ) (ts : List A) (ys : List A) (r : ℕ) : Type 0 where
  pub elements : ys ≡ sets xs at ts
  pub next : r ≡ after at (length ts)

abbrev pub pick_list : Bool → List ℕ → List ℕ → List ℕ
pick_list true a b = a
pick_list false a b = b

-- the decimal digits of n, most significant first, as long as the fuel lasts
unfoldable pub digits : ℕ → ℕ → List ℕ
digits zero n = []
digits (suc k) n = let more = digits k (n / 10) in pick_list (ltb n 10) ((48 + n) ∷ []) (more ++ ((48 + n % 10) ∷ []))

-- the decimal digits of n, with no leading zero: n has at most n + 1 of them
unfoldable pub decimal : ℕ → List ℕ
decimal n = digits (suc n) n
