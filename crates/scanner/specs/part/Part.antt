-- Parts of lent bytes and places in them, as lists of bytes: what the contracts of `part` and of the crates above it cite.
-- Places are counted from 0. Assumes nothing.
use Rattle.std.specs.Prelude.{ℕ, zero, suc, ◌-◌, ◌≤◌, ◌≡◌, List, [], ◌∷◌, Bool, true, false, not, cond, length, take, drop, eqb}

-- the part from the place `from` up to, not including, the place `to`
abbrev pub part : ℕ → ℕ → List ℕ → List ℕ
part from to xs = take (to - from) (drop from xs)

-- r is the place p, which is at most the end of xs
pub record Place (xs : List ℕ) (p r : ℕ) : Type 0 where
  pub is : r ≡ p
  pub within : r ≤ length xs

-- the place of the first byte that passes a test, or the length
unfoldable pub first_byte : (ℕ → Bool) → List ℕ → ℕ
first_byte test [] = 0
first_byte test (x ∷ xs) = cond (test x) 0 (suc (first_byte test xs))

-- the place of the first b, or the length
abbrev pub index_of : ℕ → List ℕ → ℕ
index_of b xs = first_byte (λ x. eqb x b) xs

-- how many spaces lead
abbrev pub leading : List ℕ → ℕ
leading xs = first_byte (λ x. not (eqb x 32)) xs

-- the place after the last byte that is no space, for a byte that is a space or not and that place in the rest
unfoldable pub ending_after : Bool → ℕ → ℕ
ending_after true zero = 0
ending_after true (suc n) = suc (suc n)
ending_after false n = suc n

-- the place after the last byte that is no space; 0 where there is none
unfoldable pub ending : List ℕ → ℕ
unfolding ending_after
ending [] = 0
ending (x ∷ xs) = ending_after (eqb x 32) (ending xs)

-- 01, Token reader: "The trimmed token is a part of the caller's bytes; trimming drops spaces." The form that 01 names: the part between
-- leading and trailing spaces. Spaces alone leave the empty part.
unfoldable pub trimmed : List ℕ → List ℕ
trimmed xs = part (leading xs) (ending xs) xs

-- whether bytes start with p
unfoldable pub starts_with : List ℕ → List ℕ → Bool
starts_with [] xs = true
starts_with (y ∷ p) [] = false
starts_with (y ∷ p) (x ∷ xs) = cond (eqb x y) (starts_with p xs) false

-- the first place where p starts, or the length
unfoldable pub index_of_text : List ℕ → List ℕ → ℕ
index_of_text p [] = 0
index_of_text p (x ∷ xs) = let r = index_of_text p xs in cond (starts_with p (x ∷ xs)) 0 (suc r)

-- whether two byte strings are the same
unfoldable pub same_bytes : List ℕ → List ℕ → Bool
same_bytes [] [] = true
same_bytes [] (y ∷ ys) = false
same_bytes (x ∷ xs) [] = false
same_bytes (x ∷ xs) (y ∷ ys) = cond (eqb x y) (same_bytes xs ys) false
