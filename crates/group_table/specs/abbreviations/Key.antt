-- A short text as one number, which says its length and its bytes. Assumes nothing.
use Rattle.std.specs.Prelude.{ℕ, ◌+◌, ◌*◌, cond, List, [], ◌∷◌, leb, length}

-- the number that has bytes as its last digits to base 256, after those of k
unfoldable pub number_from : ℕ → List ℕ → ℕ
number_from k [] = k
number_from k (x ∷ xs) = number_from (k * 256 + x) xs

-- of a text of at most four bytes: a 1 and then its bytes; 0 of a longer one
unfoldable pub key_of : List ℕ → ℕ
key_of s = cond (leb (length s) 4) (number_from 1 s) 0
