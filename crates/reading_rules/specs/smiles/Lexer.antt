-- The bytes of a text as pieces.
-- 01, Templates and the builder: atoms "B C N O P S F I Cl Br b c n o s p * or brackets of 1 to 16 letters, digits, `+ - @`", bonds
-- "`- = # / \`"; The line and its reading: "an atom with labels (`%`, 10 to 99) and digits 1 to 9".
use Rattle.std.specs.Prelude.{ℕ, ◌+◌, ◌-◌, ◌*◌, Bool, false, cond, ◌||◌, ◌&&◌, List, [], ◌∷◌, ◌++◌, length, eqb, leb}
use Prim.Native.Char.{code}
use Rattle.std.proofs.Math.Option.{Option, none, some}
use Rattle.scanner.specs.part.Ascii.{ascii}
use Rattle.reading_rules.specs.smiles.Piece.{Piece, atom, mark, dot, lpar, rpar}

-- ---- the bytes

unfoldable pub memb : ℕ → List ℕ → Bool
memb x [] = false
memb x (y ∷ ys) = eqb x y || memb x ys

unfoldable pub within : ℕ → ℕ → ℕ → Bool
within lo hi x = leb lo x && leb x hi

-- the atoms of one byte
unfoldable pub organic : List ℕ
unfolding ascii
organic = ascii "BCNOPSFIbcnosp*"

unfoldable pub marks : List ℕ
unfolding ascii
marks = ascii "-=#/\\"

-- what may stand in a bracket: letters, digits, + - @
unfoldable pub bracketed : ℕ → Bool
unfolding within memb ascii
bracketed x = within (code "A") (code "Z") x || within (code "a") (code "z") x || within (code "0") (code "9") x || memb x (ascii "+-@")

-- the letter x makes one atom with the letter a: Cl and Br
unfoldable pub pairs : ℕ → ℕ → Bool
pairs a x = eqb x (code "l") && eqb a (code "C") || eqb x (code "r") && eqb a (code "B")

-- ---- one byte

-- Where the lexer stands: between pieces; after an atom, with its bytes and its labels so far; in a bracket, with the bytes in it so far;
-- after the `%` of a label; after that and the label's first digit
pub data Lex : Type 0 where
  between : Lex
  in_atom : List ℕ → List ℕ → Lex
  in_bracket : List ℕ → Lex
  in_label : List ℕ → List ℕ → Lex
  in_tens : List ℕ → List ℕ → ℕ → Lex

-- what a byte gives: the pieces that it ends, and where the lexer stands then; or it fits nowhere
pub data Fed : Type 0 where
  halt : Fed
  fed : List Piece → Lex → Fed

-- a byte that begins a piece
unfoldable pub begin : ℕ → Fed
unfolding memb organic marks
begin x =
    cond (memb x organic) (fed [] (in_atom (x ∷ []) []))
    (cond (memb x marks) (fed (mark x ∷ []) between)
    (cond (eqb x (code "[")) (fed [] (in_bracket []))
    (cond (eqb x (code ".")) (fed (dot ∷ []) between) (cond (eqb x (code "(")) (fed (lpar ∷ []) between) (cond (eqb x (code ")")) (fed (rpar ∷ []) between) halt)))))

-- whether x is the second letter of an atom of two letters: straight after the first, with no label between
unfoldable pub second : ℕ → List ℕ → List ℕ → Bool
unfolding pairs
second x (a ∷ []) [] = pairs a x
second x (a ∷ []) (l ∷ ls) = false
second x (a ∷ a' ∷ b) ls = false
second x [] ls = false

-- the piece u ends where x begins the next
unfoldable pub ended : Piece → Fed → Fed
ended u halt = halt
ended u (fed us q) = fed (u ∷ us) q

-- A digit label is 1 to 9; `%` wants two digits, of which the first is no 0; a bracket holds 1 to 16 bytes. An atom goes on to its second
-- letter and its labels: no other piece has labels, so they stand straight after an atom
unfoldable pub feed : Lex → ℕ → Fed
unfolding begin second ended within bracketed
feed between x = begin x
feed (in_atom b ls) x =
    cond (second x b ls) (fed [] (in_atom (b ++ x ∷ []) []))
    (cond (within (code "1") (code "9") x) (fed [] (in_atom b (ls ++ (x - code "0") ∷ []))) (cond (eqb x (code "%")) (fed [] (in_label b ls)) (ended (atom b ls) (begin x))))
feed (in_bracket xs) x =
    cond (bracketed x) (fed [] (in_bracket (xs ++ x ∷ [])))
    (cond (eqb x (code "]") && within 1 16 (length xs)) (fed [] (in_atom (code "[" ∷ xs ++ code "]" ∷ []) [])) halt)
feed (in_label b ls) x = cond (within (code "1") (code "9") x) (fed [] (in_tens b ls (x - code "0"))) halt
feed (in_tens b ls d) x = cond (within (code "0") (code "9") x) (fed [] (in_atom b (ls ++ (10 * d + (x - code "0")) ∷ []))) halt

-- ---- all bytes

unfoldable pub before : List Piece → Option (List Piece) → Option (List Piece)
before us none = none
before us (some vs) = some (us ++ vs)

unfoldable pub on_fed : Fed → (Lex → Option (List Piece)) → Option (List Piece)
unfolding before
on_fed halt k = none
on_fed (fed us q) k = before us (k q)

-- the pieces of the bytes from where the lexer stands; none where a byte fits nowhere, or a bracket or a label is cut off
unfoldable pub lex : Lex → List ℕ → Option (List Piece)
unfolding feed on_fed
lex between [] = some []
lex (in_atom b ls) [] = some (atom b ls ∷ [])
lex (in_bracket xs) [] = none
lex (in_label b ls) [] = none
lex (in_tens b ls d) [] = none
lex q (x ∷ xs) = on_fed (feed q x) (λ q'. lex q' xs)

-- the pieces of a text
unfoldable pub pieces_of : List ℕ → Option (List Piece)
unfolding lex
pieces_of xs = lex between xs
