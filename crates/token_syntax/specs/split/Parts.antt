-- The parts of a byte string between two bytes of one kind. Assumes nothing.
use Rattle.std.specs.Prelude.{ℕ, List, [], ◌∷◌, cond, eqb}

-- x in front of the first of some parts
abbrev pub onto : ℕ → List (List ℕ) → List (List ℕ)
onto x [] = (x ∷ []) ∷ []
onto x (s ∷ ss) = (x ∷ s) ∷ ss

-- the parts between bytes b: one more than there are such bytes
unfoldable pub parts_at : ℕ → List ℕ → List (List ℕ)
parts_at b [] = [] ∷ []
parts_at b (x ∷ xs) = let r = parts_at b xs in cond (eqb x b) ([] ∷ r) (onto x r)

-- 01, Token reader: "an empty list is none". The texts of a list's positions, between commas.
unfoldable pub list_parts : List ℕ → List (List ℕ)
list_parts [] = []
list_parts (x ∷ xs) = parts_at 44 (x ∷ xs)
