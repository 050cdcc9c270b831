-- A part of a text that hangs on an atom, as a group's branch or a tail does: its pieces, and what they read to by themselves.
use Rattle.std.specs.Prelude.{ℕ, zero, suc, ◌+◌, List, [], ◌∷◌, map}
use Rattle.std.proofs.Math.Option.{Option, none, some}
use Rattle.reading_rules.specs.smiles.Row.{Link, link, Row, row}
use Rattle.reading_rules.specs.smiles.Piece.{Piece}
use Rattle.reading_rules.specs.smiles.Lexer.{pieces_of}
use Rattle.reading_rules.specs.smiles.Machine.{fresh, opened, after, marked, st, Out, fail, ok, run}

-- its own atoms are 1 to `size`, and 0 is the atom that it hangs on; `last` is the atom that one after it would join
pub record Part : Type 0 where
  pub pieces : List Piece
  pub rows : List Row
  pub size : ℕ
  pub last : ℕ

-- ---- a part from its bytes

-- the pieces read by themselves: after an opening, on atom 0
unfoldable pub alone : List Piece → Out
unfolding run
alone us = run us (st 1 0 [] [] opened)

-- the part that was read: it ends after an atom or a `)`, with no branch and no label open
unfoldable pub part_read : List Piece → Out → Option Part
part_read us fail = none
part_read us (ok rs (st zero e stk t ph)) = none
part_read us (ok rs (st (suc n) e [] [] fresh)) = none
part_read us (ok rs (st (suc n) e [] [] opened)) = none
part_read us (ok rs (st (suc n) e [] [] after)) = some (record { pieces = us; rows = rs; size = n; last = e })
part_read us (ok rs (st (suc n) e [] [] (marked m))) = none
part_read us (ok rs (st (suc n) e [] (x ∷ t) ph)) = none
part_read us (ok rs (st (suc n) e (p ∷ stk) t ph)) = none

unfoldable pub part_lexed : Option (List Piece) → Option Part
unfolding alone part_read
part_lexed none = none
part_lexed (some us) = part_read us (alone us)

-- the part that some bytes are, if they are one
unfoldable pub part_of : List ℕ → Option Part
unfolding pieces_of part_lexed
part_of xs = part_lexed (pieces_of xs)

-- ---- a part in a larger text

-- where atom i of a part stands that hangs on the atom `on`, where its own atoms are numbered from n
abbrev pub place : ℕ → ℕ → ℕ → ℕ
place on n zero = on
place on n (suc i) = n + i

abbrev pub move_link : (ℕ → ℕ) → Link → Link
move_link ρ (link a m) = link (ρ a) m

abbrev pub move_row : (ℕ → ℕ) → Row → Row
move_row ρ (row b ks) = row b (map (move_link ρ) ks)

-- the rows of a part there
unfoldable pub hung : ℕ → ℕ → Part → List Row
hung on n p = map (move_row (place on n)) p.rows
