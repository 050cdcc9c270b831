-- Four places of an array with a count. Assumes nothing.
use Rattle.std.specs.Prelude.{ℕ, ◌≡◌, List, ◌++◌, length, take, replicate}

-- the first four of a list; a place past its end has z
unfoldable pub four : {A : Type 0} → A → List A → List A
four z l = take 4 (l ++ replicate 4 z)

-- an array with a count holds a list, as far as there is room
pub record Filled {A : Type 0} (z : A) (l : List A) (n : ℕ) (xs : List A) : Type 0 where
  pub count : n ≡ length (take 4 l)
  pub items : xs ≡ four z l

-- it then holds some more after them
pub record Added {A : Type 0} (z : A) (more : List A) (n : ℕ) (xs : List A) (m : ℕ) (ys : List A) : Type 0 where
  pub holds : (l : List A) → Filled z l n xs → Filled z (l ++ more) m ys
