-- Each way through a reader of a bond or an atom as a case of the definition.
-- Assumes nothing.
use Prim.Native.Nat.{ℕ, suc, ◌+◌, ◌-◌, ◌≤◌, ◌<◌}
use native.Mathlib.Numerals.{add-one}
use native.Mathlib.Omega.{arith}
use mathlib.Core.Path.{◌≡◌, refl, sym, ap, ◌∙◌}
use mathlib.Core.Bool.{Bool, true, false, not}
use mathlib.Core.List.{List}
use lib.ListN.{length, drop, get_or, drop_of_length-le}
use lib.Seq.{drop-cons}
use borrow.Author.Tests.{ne_eqb, le-leb, lt-leb, not-true, not-false}
use Rattle.reading_rules.specs.reading.Lexer.{memb, within, organic, marks, bracketed, pairs}
use Rattle.std.specs.Prelude.{Option, Some, None}
use Rattle.tail_grammar.specs.tailatom.Atom.{bond_at, BondIs, bracket_run, closed_at, bracket_at, atom_at, AtomIs}
use Rattle.tail_grammar.proofs.tailatom.Scan.{past_end, atom-is}

-- ---- a bond

pub bond-end : (s : List ℕ) (at : ℕ) → at ≡ length s → BondIs s at at
unfolding bond_at memb marks
bond-end s at h = record { is = rw (past_end s at (omega arith)) refl; least = omega arith; within = omega arith }

module _ (s : List ℕ) (at : ℕ) (h : at ≤ length s) (n : at ≡ length s → ⊥) (a : Bool) (e : a ≡ memb (get_or s at 0) marks) where
  pub a-bond : a ≡ true → BondIs s at (at + 1)
  unfolding bond_at
  a-bond f = record { is = rw (sym e ∙ f) refl; least = omega arith; within = omega arith }

  pub no-bond : a ≡ false → BondIs s at at
  unfolding bond_at
  no-bond f = record { is = rw (sym e ∙ f) refl; least = omega arith; within = omega arith }

-- ---- a bracket

-- the loop's invariant: i − at bytes of the bracket were passed
pub record InBracket (s : List ℕ) (at i : ℕ) : Type 0 where
  pub run : bracket_run (drop at s) ≡ (i - at) + bracket_run (drop i s)
  pub least : at ≤ i
  pub within : i ≤ length s

pub bracket-first : (s : List ℕ) (at : ℕ) → at ≤ length s → InBracket s at at
bracket-first s at h = record { run = omega arith; least = omega arith; within = h }

module _ (s : List ℕ) (at i : ℕ) (v : InBracket s at i) where
  -- no more bytes of it follow: it is closed at i, or not at all
  stops : bracket_run (drop i s) ≡ 0 → (r : Option ℕ) → r ≡ closed_at s at (i - at) → r ≡ bracket_at s at
  unfolding bracket_at
  stops z r e = e ∙ ap (λ (n : ℕ). closed_at s at n) (omega (arith, v.run, z))

  here : at + (i - at) ≡ i
  here = omega (arith, v.least)

  pub bracket-cut : length s ≤ i → None ≡ bracket_at s at
  unfolding closed_at bracket_run
  bracket-cut h = stops (rw (drop_of_length-le s {i = i} h) refl) None (rw (here, past_end s i h) refl)

  module _ (h : i < length s) (a : Bool) (e : a ≡ bracketed (get_or s i 0)) where
    pub bracket-on : a ≡ true → InBracket s at (i + 1)
    unfolding bracket_run
    bracket-on f =
        let one : bracket_run (drop i s) ≡ suc (bracket_run (drop (i + 1) s)) = rw (add-one i, drop-cons s i 0 h, sym e ∙ f) refl in
        record { run = omega (arith, v.run, v.least, one); least = omega (arith, v.least); within = omega arith }

    module _ (f : a ≡ false) where
      over : bracket_run (drop i s) ≡ 0
      unfolding bracket_run
      over = rw (drop-cons s i 0 h, sym e ∙ f) refl

      pub bracket-strange : (get_or s i 0 ≡ 93 → ⊥) → None ≡ bracket_at s at
      unfolding closed_at
      bracket-strange n = stops over None (rw (here, ne_eqb (get_or s i 0) 93 n) refl)

      module _ (z : get_or s i 0 ≡ 93) where
        pub bracket-empty : i ≡ at → None ≡ bracket_at s at
        unfolding closed_at within
        bracket-empty w = let k : i - at ≡ 0 = omega arith in stops over None (rw (here, z, k) refl)

        module _ (w : i ≡ at → ⊥) where
          pub bracket-long : 16 < i - at → None ≡ bracket_at s at
          unfolding closed_at within
          bracket-long g = stops over None (rw (here, z, le-leb 1 (i - at) (omega arith), lt-leb (i - at) 16 g) refl)

          pub bracket-shut : i - at ≤ 16 → Some (i + 1) ≡ bracket_at s at
          unfolding closed_at within
          bracket-shut g = stops over (Some (i + 1)) (rw (here, z, le-leb 1 (i - at) (omega (arith, v.least)), le-leb (i - at) 16 g) refl)

-- ---- an atom

pub atom-end : (s : List ℕ) (at : ℕ) → at ≡ length s → AtomIs s at None
unfolding atom_at memb organic
atom-end s at h = atom-is s at (omega arith) None (rw (past_end s at (omega arith)) refl)

module _ (s : List ℕ) (at : ℕ) (h : at ≤ length s) where
  pub atom-bracket : (r : Option ℕ) → get_or s at 0 ≡ 91 → r ≡ bracket_at s (at + 1) → AtomIs s at r
  unfolding atom_at memb organic
  atom-bracket r e d = atom-is s at h r (rw e d)

  module _ (b : get_or s at 0 ≡ 91 → ⊥) (a : Bool) (e : a ≡ memb (get_or s at 0) organic) where
    pub atom-strange : not a ≡ true → AtomIs s at None
    unfolding atom_at
    atom-strange f = atom-is s at h None (rw (sym e ∙ not-true a f, ne_eqb (get_or s at 0) 91 b) refl)

    module _ (f : not a ≡ false) where
      pub atom-last : at + 1 ≡ length s → AtomIs s at (Some (at + 1))
      unfolding atom_at pairs
      atom-last g = atom-is s at h (Some (at + 1)) (rw (sym e ∙ not-false a f, past_end s (at + 1) (omega arith)) refl)

      module _ (t : Bool) (w : t ≡ pairs (get_or s at 0) (get_or s (at + 1) 0)) where
        pub atom-two : t ≡ true → AtomIs s at (Some (at + 1 + 1))
        unfolding atom_at
        atom-two g = atom-is s at h (Some (at + 1 + 1)) (rw (sym e ∙ not-false a f, sym w ∙ g) refl)

        pub atom-one : t ≡ false → AtomIs s at (Some (at + 1))
        unfolding atom_at
        atom-one g = atom-is s at h (Some (at + 1)) (rw (sym e ∙ not-false a f, sym w ∙ g) refl)
