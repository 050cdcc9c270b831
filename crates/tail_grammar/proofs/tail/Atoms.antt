-- The number of atoms of a tail is that of the part that it reads to.
use mathlib.Core.Path.{◌≡◌, sym, ap, ◌∙◌}
use mathlib.Core.Bool.{true, false}
use mathlib.Core.Option.{some}
use Prim.Native.Nat.{ℕ, zero, suc, ◌≤◌}
use native.Mathlib.Omega.{arith}
use mathlib.Core.List.{List}
use lib.Dec.{eqb}
use borrow.Author.Tests.{eqb-true, not-false}
use Rattle.reading_rules.specs.reading.Piece.{show}
use Rattle.reading_rules.specs.reading.Part.{Part, part_of}
use Rattle.reading_rules.proofs.reading.Part.{part-from}
use Rattle.tail_grammar.specs.ringdigits.Grammar.{atoms_of_tail, is_tail}
use Rattle.tail_grammar.proofs.tail.Alone.{Alone, part-is, tail-reads, tail-some}

-- what is no tail counts as 0; a tail as 1 or more: `tail-some`
pub tail_none : (t : List ℕ) → is_tail t ≡ false → atoms_of_tail t ≡ 0
unfolding is_tail
tail_none t h = eqb-true (atoms_of_tail t) 0 (not-false (eqb (atoms_of_tail t) 0) h)

-- an atom takes a byte, so there are no more than bytes
pub tail-few : (t : List ℕ) → atoms_of_tail t ≤ 255
tail-few t = go (atoms_of_tail t) (tail-reads t)
  where
    go : (n : ℕ) → (1 ≤ n → Alone t n) → n ≤ 255
    go zero f = omega arith
    go (suc n) f = (f (omega arith)).few

-- THE LAW OF THE TAIL'S ATOMS
pub tail-part-atoms : (t : List ℕ) → is_tail t ≡ true → (p : Part) → part_of t ≡ some p → p.size ≡ atoms_of_tail t
tail-part-atoms t h p e =
    let d : Alone t (atoms_of_tail t) = tail-reads t (tail-some t h) in
    let w : some (record { pieces = d.us; rows = d.rows; size = atoms_of_tail t; last = d.last }) ≡ some p = sym (part-is t (atoms_of_tail t) d) ∙ e in
    let z : record { pieces = d.us; rows = d.rows; size = atoms_of_tail t; last = d.last } ≡ p = cc in
    sym (ap (λ (y : Part). y.size) z)

-- its pieces are the tail, written
pub tail-part-shows : (t : List ℕ) (p : Part) → part_of t ≡ some p → show p.pieces ≡ t
tail-part-shows t p e = (part-from t p e).shown
