-- A tail without digits, read with no more than the depth of its branches kept: each way through the loop as a step of the grammar.
use Prim.Native.Nat.{ℕ, ◌+◌, ◌-◌, ◌≤◌, ◌<◌}
use native.Mathlib.Omega.{arith}
use mathlib.Core.Path.{◌≡◌, refl, sym, ap, ◌∙◌}
use mathlib.Core.Bool.{Bool, true, false, not}
use mathlib.Core.List.{List, [], ◌∷◌}
use lib.ListN.{length, drop, get_or}
use borrow.Author.Tests.{lt-ltb, le-leb, not-false}
use Rattle.reading_rules.specs.reading.Ascii.{ascii}
use Rattle.reading_rules.specs.reading.Lexer.{memb, within, organic, marks, pairs}
use Rattle.std.specs.Prelude.{Some}
use Rattle.tail_grammar.specs.tailatom.Atom.{AtomIs}
use Rattle.tail_grammar.proofs.tailatom.Scan.{found-scans}
use Rattle.tail_grammar.specs.ringdigits.Grammar.{Rings, no_rings, with_atom, back_to, none_open, stands, opening, after_bond, branch_closes, branch_opens, goes_on, digit_or, bond_or_atom, step, finished, scan, atoms_of_tail}
use Rattle.tail_grammar.proofs.ringdigits.Scan.{scan-at, scan-end, same_at}
use Rattle.tail_grammar.specs.declared.tail.Place.{Place}
use Rattle.tail_grammar.specs.declared.tail.Place.TheVariants.{Opening, Bonded, Closed, Whole, Letter}
use Rattle.tail_grammar.specs.tail.Contract.{place_of, follows_bond, follows_atom}
use Rattle.tail_grammar.proofs.tail.Scan.{letter-step, opens-step, closes-step, ends-late}

-- the loop's invariant: the tail goes on from its start as from the place i, where so many branches are open, no digit is, and so many atoms stand
pub record InPlain (s : List ℕ) (i : ℕ) (place : Place) (depth atoms : ℕ) : Type 0 where
  pub stk : List ℕ
  pub rings : Rings
  pub same : scan (stands opening [] no_rings) s ≡ scan (stands (place_of place) stk rings) (drop i s)
  pub deep : length stk ≡ depth
  pub count : rings.last ≡ atoms
  pub none : none_open rings.opened ≡ true
  pub few : atoms ≤ i
  pub within : i ≤ length s

pub plain-first : (s : List ℕ) → InPlain s 0 Opening 0 0
unfolding none_open
plain-first s = record { stk = []; rings = no_rings; same = refl; deep = refl; count = refl; none = refl; few = omega arith; within = omega arith }

-- a bond where none stood before
mark-step : (p : Place) (stk : List ℕ) (q : Rings) → follows_bond p ≡ false → step (stands (place_of p) stk q) 61 ≡ stands after_bond stk q
unfolding step goes_on digit_or bond_or_atom within pairs memb marks ascii
mark-step Opening stk q h = refl
mark-step Bonded stk q h = cc
mark-step Closed stk q h = refl
mark-step Whole stk q h = refl
mark-step (Letter a) stk q h = refl

-- a bracket begins an atom wherever the reader stands
bracket-step : (p : Place) (stk : List ℕ) (q : Rings) → step (stands (place_of p) stk q) 91 ≡ step (stands after_bond stk q) 91
unfolding step goes_on digit_or bond_or_atom within pairs memb marks ascii
bracket-step Opening stk q = refl
bracket-step Bonded stk q = refl
bracket-step Closed stk q = refl
bracket-step Whole stk q = refl
bracket-step (Letter a) stk q = refl

module _ (s : List ℕ) (i : ℕ) (place : Place) (depth atoms : ℕ) (v : InPlain s i place depth atoms) where
  module _ (h : i < length s) where
    pub plain-letter : (a : Bool) → (a ≡ true → memb (get_or s i 0) organic ≡ true) → a ≡ true → InPlain s (i + 1) (Letter (get_or s i 0)) depth (atoms + 1)
    plain-letter a e f =
        record {
          stk = v.stk;
          rings = with_atom v.rings;
          same = v.same ∙ scan-at (stands (place_of place) v.stk v.rings) s i h ∙ rw (letter-step place (get_or s i 0) v.stk v.rings (e f)) refl;
          deep = v.deep;
          count = ap (λ (m : ℕ). m + 1) v.count;
          none = v.none;
          few = omega (arith, v.few);
          within = omega arith;
        }

    byte : (x : ℕ) → get_or s i 0 ≡ x → scan (stands opening [] no_rings) s ≡ scan (step (stands (place_of place) v.stk v.rings) x) (drop (i + 1) s)
    byte x e = v.same ∙ scan-at (stands (place_of place) v.stk v.rings) s i h ∙ rw e refl

    pub plain-opens : get_or s i 0 ≡ 40 → (b : Bool) → b ≡ follows_atom place → not b ≡ false → depth < 16 → InPlain s (i + 1) Opening (depth + 1) atoms
    unfolding branch_opens
    plain-opens e a k f d =
        record {
          stk = v.rings.current ∷ v.stk;
          rings = v.rings;
          same = byte 40 e ∙ rw (opens-step place v.stk v.rings (sym k ∙ not-false a f), lt-ltb (length v.stk) 16 (omega (arith, v.deep))) refl;
          deep = omega (arith, v.deep);
          count = v.count;
          none = v.none;
          few = omega (arith, v.few);
          within = omega arith;
        }

    pub plain-closes : get_or s i 0 ≡ 41 → (b : Bool) → b ≡ follows_atom place → not b ≡ false → (depth ≡ 0 → ⊥) → InPlain s (i + 1) Closed (depth - 1) atoms
    unfolding branch_closes
    plain-closes e b k f d = go v.stk v.deep (byte 41 e ∙ rw (closes-step place v.stk v.rings (sym k ∙ not-false b f)) refl)
      where
        go : (t : List ℕ) → length t ≡ depth → scan (stands opening [] no_rings) s ≡ scan (branch_closes t v.rings) (drop (i + 1) s) → InPlain s (i + 1) Closed (depth - 1) atoms
        go [] l f = absurd (d (sym l))
        go (a ∷ t) l f =
            record {
              stk = t;
              rings = back_to a v.rings;
              same = f;
              deep = omega (arith, l);
              count = v.count;
              none = v.none;
              few = omega (arith, v.few);
              within = omega arith;
            }

    pub plain-bond : get_or s i 0 ≡ 61 → (b : Bool) → b ≡ follows_bond place → b ≡ false → InPlain s (i + 1) Bonded depth atoms
    plain-bond e b k f =
        record {
          stk = v.stk;
          rings = v.rings;
          same = byte 61 e ∙ rw (mark-step place v.stk v.rings (sym k ∙ f)) refl;
          deep = v.deep;
          count = v.count;
          none = v.none;
          few = omega (arith, v.few);
          within = omega arith;
        }

    module _ (p : ℕ) (a : AtomIs s i (Some p)) where
      pub bracket-less : length s - p < length s - i
      bracket-less = omega (arith, a.says.0, a.says.1)

      pub plain-bracket : get_or s i 0 ≡ 91 → InPlain s p Whole depth (atoms + 1)
      plain-bracket b =
          record {
            stk = v.stk;
            rings = with_atom v.rings;
            same = v.same
                ∙ same_at (stands (place_of place) v.stk v.rings) (stands after_bond v.stk v.rings) s i h (rw b (bracket-step place v.stk v.rings))
                ∙ found-scans s i v.within (Some p) a.is v.stk v.rings;
            deep = v.deep;
            count = ap (λ (m : ℕ). m + 1) v.count;
            none = v.none;
            few = omega (arith, v.few, a.says.0);
            within = a.says.1;
          }

  pub plain-ends : length s ≤ i → (b : Bool) → b ≡ follows_atom place → not b ≡ false → depth ≡ 0 → 1 ≤ length s → length s ≤ 255 → atoms ≡ atoms_of_tail s
  unfolding atoms_of_tail within finished
  plain-ends w a k f d l m =
      sym (rw (le-leb 1 (length s) l, le-leb (length s) 255 m)
      (v.same ∙ scan-end (stands (place_of place) v.stk v.rings) s i (omega (arith, v.within)) ∙ ends-late place v.stk v.rings (sym k ∙ not-false a f) ∙ last v.stk (v.deep ∙ d)))
    where
      last : (t : List ℕ) → length t ≡ 0 → finished t v.rings ≡ atoms
      last [] k = rw v.none v.count
      last (a ∷ t) k = absurd (omega (arith, k))
