-- Lists: tests over their elements, what holds of each, and the values of a function at numbers that follow one another. Assumes nothing.
use Rattle.std.specs.Prelude.{ℕ, zero, suc, max, Bool, true, false, cond, ◌||◌, ◌&&◌, List, [], ◌∷◌}

-- whether some element passes a test
unfoldable pub any_of : {A : Type 0} → (A → Bool) → List A → Bool
any_of test [] = false
any_of test (a ∷ l) = test a || any_of test l

-- whether every element passes a test
unfoldable pub all_of : {A : Type 0} → (A → Bool) → List A → Bool
all_of test [] = true
all_of test (a ∷ l) = test a && all_of test l

-- every element has a property
abbrev pub Each : {A : Type 0} → (A → Type 0) → List A → Type 0
Each P [] = Unit {0}
Each P (a ∷ l) = P a × Each P l

-- the elements that pass a test, in order
unfoldable pub only : {A : Type 0} → (A → Bool) → List A → List A
only test [] = []
only test (a ∷ l) = let r = only test l in cond (test a) (a ∷ r) r

unfoldable pub is_empty : {A : Type 0} → List A → Bool
is_empty [] = true
is_empty (a ∷ l) = false

-- whether two elements of a list, at different places, stand in a relation
unfoldable pub any_two : {A : Type 0} → (A → A → Bool) → List A → Bool
unfolding any_of
any_two rel [] = false
any_two rel (a ∷ l) = any_of (rel a) l || any_two rel l

-- f k, f (k + 1), .., so many values
unfoldable pub values_from : {A : Type 0} → (ℕ → A) → ℕ → ℕ → List A
values_from f k zero = []
values_from f k (suc n) = f k ∷ values_from f (suc k) n

-- the largest of some numbers and m
unfoldable pub largest : ℕ → List ℕ → ℕ
largest m [] = m
largest m (x ∷ xs) = largest (max m x) xs
