-- The pieces of a text, and how each is written.
-- 01, The line and its reading: "a run is an atom with labels (`%`, 10 to 99) and digits 1 to 9, then any number of: such an atom, after at
-- most one mark or `.`; `(`, at most one mark, a run, `)`", "atoms and marks as in the tail".
use Rattle.std.specs.Prelude.{ℕ, ◌+◌, ◌/◌, ◌%◌, cond, List, [], ◌∷◌, ◌++◌, ltb}
use Prim.Native.Char.{code}

-- an atom is its bytes, brackets included, and the labels that stand straight after it, digits among them: digit d is the label d
pub data Piece : Type 0 where
  atom : List ℕ → List ℕ → Piece
  mark : ℕ → Piece
  dot lpar rpar : Piece

-- a label below 10 is a digit, any other is `%` and two digits
unfoldable pub show_label : ℕ → List ℕ
show_label l = cond (ltb l 10) ((code "0" + l) ∷ []) (code "%" ∷ (code "0" + l / 10) ∷ (code "0" + l % 10) ∷ [])

unfoldable pub show_labels : List ℕ → List ℕ
unfolding show_label
show_labels [] = []
show_labels (l ∷ ls) = show_label l ++ show_labels ls

unfoldable pub show_piece : Piece → List ℕ
unfolding show_labels
show_piece (atom b ls) = b ++ show_labels ls
show_piece (mark m) = m ∷ []
show_piece dot = code "." ∷ []
show_piece lpar = code "(" ∷ []
show_piece rpar = code ")" ∷ []

-- the bytes of pieces, end to end
unfoldable pub show : List Piece → List ℕ
unfolding show_piece
show [] = []
show (u ∷ us) = show_piece u ++ show us
