-- Pieces that the lexer can give: atoms and marks of 01, labels 1 to 99.
use Prim.Native.Nat.{ℕ, ◌≤◌, ◌<◌}
use mathlib.Core.Path.{◌≡◌}
use mathlib.Core.Bool.{true}
use mathlib.Core.List.{List, [], ◌∷◌, ◌++◌}
use lib.ListN.{length}
use lib.Dec.{T}
use Rattle.reading_rules.specs.smiles.Piece.{Piece, atom, mark, dot, lpar, rpar}
use Rattle.reading_rules.specs.smiles.Lexer.{memb, organic, marks, bracketed}

abbrev pub Bracketed : List ℕ → Type 0
Bracketed [] = Unit {0}
Bracketed (x ∷ xs) = (bracketed x ≡ true) × Bracketed xs

-- the bytes of an atom
pub data AtomBytes : List ℕ → Type 0 where
  letter : (x : ℕ) → T (memb x organic) → AtomBytes (x ∷ [])
  chlorine : AtomBytes (67 ∷ 108 ∷ [])
  bromine : AtomBytes (66 ∷ 114 ∷ [])
  bracket : (xs : List ℕ) → Bracketed xs → 1 ≤ length xs → length xs ≤ 16 → AtomBytes (91 ∷ xs ++ 93 ∷ [])

abbrev pub Labels : List ℕ → Type 0
Labels [] = Unit {0}
Labels (l ∷ ls) = (1 ≤ l) × ((l < 100) × Labels ls)

abbrev pub WellFormed : Piece → Type 0
WellFormed (atom b ls) = AtomBytes b × Labels ls
WellFormed (mark m) = T (memb m marks)
WellFormed dot = Unit {0}
WellFormed lpar = Unit {0}
WellFormed rpar = Unit {0}

abbrev pub AllWell : List Piece → Type 0
AllWell [] = Unit {0}
AllWell (u ∷ us) = WellFormed u × AllWell us

pub well-append : (a b : List Piece) → AllWell a → AllWell b → AllWell (a ++ b)
well-append [] b h g = g
well-append (u ∷ a) b h g = (h.0, well-append a b h.1 g)
