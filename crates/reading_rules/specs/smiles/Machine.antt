-- Pieces to rows, by a small machine.
-- 01, The line and its reading: "a run is an atom with labels .., then any number of: such an atom, after at most one mark or `.`; `(`, at
-- most one mark, a run, `)`. The text is a run .. An atom joins the one before, closed branches skipped, by its mark; `.` joins nothing; a
-- label or digit opens, then closes with a plain bond, none open at the end. One closing on its own atom or on one already bonded to it is
-- unreadable."
use Rattle.std.specs.Prelude.{ℕ, suc, Bool, true, false, cond, ◌||◌, List, [], ◌∷◌, ◌++◌, eqb}
use Prim.Native.Char.{code}
use Rattle.std.proofs.Math.Option.{Option, none, some}
use Rattle.reading_rules.specs.smiles.Row.{Link, link, Row, row}
use Rattle.reading_rules.specs.smiles.Piece.{Piece, atom, mark, dot, lpar, rpar}

-- an open label, and the atom that it stands on
pub data Entry : Type 0 where
  entry : ℕ → ℕ → Entry

-- What came last: nothing or a `.`, so that an atom has to come, which joins nothing; a `(`; an atom or a `)`; a mark
pub data Phase : Type 0 where
  fresh opened after : Phase
  marked : ℕ → Phase

-- the number of atoms so far, the atom that the next one joins, the atoms at which the open branches started, the open labels, the phase
pub data State : Type 0 where
  st : ℕ → ℕ → List ℕ → List Entry → Phase → State

-- the rows of what was read, and the state after it; or it is unreadable
pub data Out : Type 0 where
  fail : Out
  ok : List Row → State → Out

-- ---- labels

unfoldable pub lookup : ℕ → List Entry → Option ℕ
lookup l [] = none
lookup l (entry k a ∷ t) = cond (eqb l k) (some a) (lookup l t)

unfoldable pub remove : ℕ → List Entry → List Entry
remove l [] = []
remove l (entry k a ∷ t) = cond (eqb l k) (remove l t) (entry k a ∷ remove l t)

-- whether an atom is among those linked
unfoldable pub among : ℕ → List Link → Bool
among a [] = false
among a (link b m ∷ ks) = eqb a b || among a ks

-- an atom's links and the open labels, after labels were read
pub data Labelled : Type 0 where
  stop : Labelled
  links : List Link → List Entry → Labelled

-- the label l closes on the atom a: a plain bond, unless the first argument says that there can be none
unfoldable pub close : Bool → ℕ → ℕ → List Link → List Entry → Labelled
unfolding remove
close true l a ks t = stop
close false l a ks t = links (ks ++ link a 0 ∷ []) (remove l t)

-- what is found of the label l, read on the atom `self`: not open, it opens; open on a, it closes, unless a is `self` or bonded to it
unfoldable pub found : Option ℕ → ℕ → ℕ → List Link → List Entry → Labelled
unfolding close among
found none l self ks t = links ks (entry l self ∷ t)
found (some a) l self ks t = close (eqb a self || among a ks) l a ks t

unfoldable pub label : ℕ → ℕ → List Link → List Entry → Labelled
unfolding found lookup
label l self ks t = found (lookup l t) l self ks t

unfoldable pub and_labels : Labelled → (List Link → List Entry → Labelled) → Labelled
and_labels stop k = stop
and_labels (links ks t) k = k ks t

-- the labels of the atom `self`, in the order of the text
unfoldable pub labels : List ℕ → ℕ → List Link → List Entry → Labelled
unfolding and_labels label
labels [] self ks t = links ks t
labels (l ∷ ls) self ks t = and_labels (label l self ks t) (λ ks' t'. labels ls self ks' t')

-- ---- one piece

-- `-` is the plain bond
unfoldable pub plainly : ℕ → ℕ
plainly m = cond (eqb m (code "-")) 0 m

-- the link with which an atom joins the current one
unfoldable pub joins : Phase → ℕ → List Link
joins fresh cur = []
joins opened cur = link cur 0 ∷ []
joins after cur = link cur 0 ∷ []
joins (marked m) cur = link cur m ∷ []

-- an atom gives its row and is the current atom
unfoldable pub placed : List ℕ → ℕ → List ℕ → Labelled → Out
placed b n stk stop = fail
placed b n stk (links ks t) = ok (row b ks ∷ []) (st (suc n) n stk t after)

-- A mark comes after an atom, a `)` or a `(`; a dot after an atom or a `)`; a branch opens after an atom or a `)`, and closes there, which
-- makes the atom at which it started the current one again
unfoldable pub step : Piece → State → Out
unfolding placed labels joins plainly
step (atom b ls) (st n cur stk t ph) = placed b n stk (labels ls n (joins ph cur) t)
step (mark m) (st n cur stk t fresh) = fail
step (mark m) (st n cur stk t opened) = ok [] (st n cur stk t (marked (plainly m)))
step (mark m) (st n cur stk t after) = ok [] (st n cur stk t (marked (plainly m)))
step (mark m) (st n cur stk t (marked m')) = fail
step dot (st n cur stk t fresh) = fail
step dot (st n cur stk t opened) = fail
step dot (st n cur stk t after) = ok [] (st n cur stk t fresh)
step dot (st n cur stk t (marked m)) = fail
step lpar (st n cur stk t fresh) = fail
step lpar (st n cur stk t opened) = fail
step lpar (st n cur stk t after) = ok [] (st n cur (cur ∷ stk) t opened)
step lpar (st n cur stk t (marked m)) = fail
step rpar (st n cur [] t ph) = fail
step rpar (st n cur (p ∷ stk) t fresh) = fail
step rpar (st n cur (p ∷ stk) t opened) = fail
step rpar (st n cur (p ∷ stk) t after) = ok [] (st n p stk t after)
step rpar (st n cur (p ∷ stk) t (marked m)) = fail

-- ---- all pieces

unfoldable pub prepend : List Row → Out → Out
prepend rs fail = fail
prepend rs (ok rs' s) = ok (rs ++ rs') s

unfoldable pub and_then : Out → (State → Out) → Out
unfolding prepend
and_then fail k = fail
and_then (ok rs s) k = prepend rs (k s)

unfoldable pub run : List Piece → State → Out
unfolding step and_then
run [] s = ok [] s
run (u ∷ us) s = and_then (step u s) (λ s'. run us s')

-- the rows of a whole text: it ends after an atom or a `)`, with no branch and no label open
unfoldable pub whole : Out → Option (List Row)
whole fail = none
whole (ok rs (st n cur [] [] fresh)) = none
whole (ok rs (st n cur [] [] opened)) = none
whole (ok rs (st n cur [] [] after)) = some rs
whole (ok rs (st n cur [] [] (marked m))) = none
whole (ok rs (st n cur [] (e ∷ t) ph)) = none
whole (ok rs (st n cur (p ∷ stk) t ph)) = none

unfoldable pub read_pieces : List Piece → Option (List Row)
unfolding run whole
read_pieces us = whole (run us (st 0 0 [] [] fresh))
