-- Laws of the scan: each way through a function as steps of the grammar.
use Prim.Native.Nat.{ℕ, zero, suc, ◌+◌, ◌-◌, ◌≤◌, ◌<◌}
use native.Mathlib.Omega.{arith}
use mathlib.Core.Path.{◌≡◌, refl, sym, ap, ◌∙◌}
use mathlib.Core.Bool.{Bool, true, false, not, cond, ◌||◌}
use mathlib.Core.List.{List, [], ◌∷◌}
use lib.ListN.{length, drop, get_or}
use lib.Dec.{eqb}
use borrow.Author.Tests.{lt-ltb, le-ltb, eqb-true, ne_eqb, le-leb, lt-leb, not-true, not-false}
use Rattle.reading_rules.specs.reading.Ascii.{ascii}
use Rattle.reading_rules.proofs.reading.ShowLex.{within_both}
use Rattle.reading_rules.specs.reading.Lexer.{memb, within, organic, marks, pairs}
use Rattle.tail_grammar.specs.declared.ringdigits.Atoms.{Atoms}
use Rattle.std.specs.Prelude.{Some, None}
use Rattle.tail_grammar.specs.ringdigits.Grammar.{Rings, no_rings, with_atom, back_to, none_open, State, wrong, stands, opening, whole, closed, letter, branch_closes, branch_opens, goes_on, digit_or, bond_or_atom, atom_begins, step, finished, done, scan, atoms_of_tail}
use Rattle.tail_grammar.specs.ringdigits.Digits.{rings_of, DigitsTo}
use Rattle.tail_grammar.specs.tailatom.Atom.{BondIs, AtomIs}
use Rattle.tail_grammar.proofs.tailatom.Scan.{bond-scans, found-scans}
use Rattle.tail_grammar.proofs.ringdigits.Scan.{scan-at, scan-end, wrong-at, same_at}
use Rattle.tail_grammar.specs.declared.tail.Place.{Place}
use Rattle.tail_grammar.specs.declared.tail.Place.TheVariants.{Opening, Bonded, Closed, Whole, Letter}
use Rattle.tail_grammar.specs.declared.tail.Reached.{Reached}
use Rattle.tail_grammar.specs.tail.Contract.{place_of, follows_bond, follows_atom, ends_atom, takes_digit, pairs_at, state_of, Fits, Inside, At, Ringed, Other, GoesTo, GoesOn, PastMark, RunTo, RunRead}

-- ---- a letter

-- what holds of each in a list holds of one among them
each : (ℕ → Bool) → List ℕ → Bool
each f [] = true
each f (y ∷ ys) = cond (f y) (each f ys) false

both : (b c : Bool) → cond b c false ≡ true → (b ≡ true) × (c ≡ true)
both true c h = (refl, h)
both false c h = let z : ◌≡◌ {A = ℕ} 0 1 = cc in absurd (omega arith)

each_of : (f : ℕ → Bool) (x : ℕ) (ys : List ℕ) → each f ys ≡ true → memb x ys ≡ true → f x ≡ true
unfolding memb each
each_of f x [] h m = cc
each_of f x (y ∷ ys) h m = go (eqb x y) (eqb-true x y) m (each_of f x ys (both (f y) (each f ys) h).1)
  where
    go : (b : Bool) → (b ≡ true → x ≡ y) → (b || memb x ys) ≡ true → (memb x ys ≡ true → f x ≡ true) → f x ≡ true
    go true e m g = ap f (e refl) ∙ (both (f y) (each f ys) h).0
    go false e m g = g m

-- a letter is nothing else
record IsLetter (x : ℕ) : Type 0 where
  mark : memb x marks ≡ false
  digit : within 49 57 x ≡ false
  opens : eqb x 40 ≡ false
  closes : eqb x 41 ≡ false
  second : (a : ℕ) → pairs a x ≡ false

a-letter : (x : ℕ) → memb x organic ≡ true → IsLetter x
unfolding each memb organic marks ascii within pairs
a-letter x m =
    let l : eqb x 108 ≡ false = not-true (eqb x 108) (each_of (λ (y : ℕ). not (eqb y 108)) x organic refl m) in
    let r : eqb x 114 ≡ false = not-true (eqb x 114) (each_of (λ (y : ℕ). not (eqb y 114)) x organic refl m) in
    record {
      mark = not-true (memb x marks) (each_of (λ (y : ℕ). not (memb y marks)) x organic refl m);
      digit = not-true (within 49 57 x) (each_of (λ (y : ℕ). not (within 49 57 y)) x organic refl m);
      opens = not-true (eqb x 40) (each_of (λ (y : ℕ). not (eqb y 40)) x organic refl m);
      closes = not-true (eqb x 41) (each_of (λ (y : ℕ). not (eqb y 41)) x organic refl m);
      second = λ a. rw (l, r);
    }

-- wherever the reader stands, a letter begins an atom
pub letter-step : (p : Place) (x : ℕ) (stk : List ℕ) (q : Rings) → memb x organic ≡ true → step (stands (place_of p) stk q) x ≡ stands (letter x) stk (with_atom q)
unfolding step bond_or_atom atom_begins goes_on digit_or
letter-step Opening x stk q m = let l : IsLetter x = a-letter x m in rw (l.mark, m)
letter-step Bonded x stk q m = rw m
letter-step Closed x stk q m = let l : IsLetter x = a-letter x m in rw (l.closes, l.opens, l.mark, m)
letter-step Whole x stk q m = let l : IsLetter x = a-letter x m in rw (l.digit, l.closes, l.opens, l.mark, m)
letter-step (Letter a) x stk q m = let l : IsLetter x = a-letter x m in rw (l.second a, l.digit, l.closes, l.opens, l.mark, m)

-- one more atom is one more byte
more-last : (a b : Atoms) → ((o j : List ℕ) → rings_of b o j ≡ with_atom (rings_of a o j)) → b.last ≡ a.last + 1
more-last a b w = ap (λ (q : Rings). q.last) (w [] [])

module _ (s : List ℕ) (r : Reached) (v : Inside s r) where
  module _ (a : Bool) (e : a ≡ true → memb (get_or s r.next 0) organic ≡ true) (f : a ≡ true) (m : Atoms) where
    pub letter-read : ((o j : List ℕ) → rings_of m o j ≡ with_atom (rings_of r.atoms o j)) → (o j t : List ℕ)
        → GoesOn s r (state_of r t o j) (Some (record { next = r.next + 1; place = Letter (get_or s r.next 0); atoms = m })) t o j
    letter-read w o j t =
        record {
          same = scan-at (state_of r t o j) s r.next v.more
              ∙ (rw (letter-step r.place (get_or s r.next 0) t (rings_of r.atoms o j) (e f))
              (ap (λ (q : Rings). scan (stands (letter (get_or s r.next 0)) t q) (drop (r.next + 1) s)) (sym (w o j))));
          further = omega arith;
          fits = record { within = omega (arith, v.more); short = v.fits.short; few = omega (arith, v.fits.few, more-last r.atoms m w) };
        }

-- one letter is a tail of one atom
pub one-letter : (s : List ℕ) (a : Bool) → length s ≡ 1 → (a ≡ true → memb (get_or s 0 0) organic ≡ true) → a ≡ true → 1 ≡ atoms_of_tail s
unfolding atoms_of_tail within scan done finished none_open
one-letter [] a h e f = absurd (omega arith)
one-letter (x ∷ []) a h e f = sym (rw (letter-step Opening x [] no_rings (e f)) refl)
one-letter (x ∷ y ∷ s) a h e f = absurd (omega arith)

-- ---- the second letter of an atom

second-step : (p : Place) (x : ℕ) (stk : List ℕ) (q : Rings) → pairs_at p x ≡ true → step (stands (place_of p) stk q) x ≡ stands whole stk q
unfolding step
second-step Opening x stk q h = cc
second-step Bonded x stk q h = cc
second-step Closed x stk q h = cc
second-step Whole x stk q h = cc
second-step (Letter a) x stk q h = rw h refl

module _ (s : List ℕ) (r : Reached) (v : Inside s r) (a : Bool) (e : a ≡ pairs_at r.place (get_or s r.next 0)) (f : a ≡ true) (o j : List ℕ) where
  pub second-read : (t : List ℕ) → GoesOn s r (state_of r t o j) (Some (record { next = r.next + 1; place = Whole; atoms = r.atoms })) t o j
  second-read t =
      record {
        same = scan-at (state_of r t o j) s r.next v.more
            ∙ rw (second-step r.place (get_or s r.next 0) t (rings_of r.atoms o j) (sym e ∙ f)) refl;
        further = omega arith;
        fits = record { within = omega (arith, v.more); short = v.fits.short; few = omega (arith, v.fits.few) };
      }

-- ---- a branch

early-opens : (p : Place) (stk : List ℕ) (q : Rings) → follows_atom p ≡ false → step (stands (place_of p) stk q) 40 ≡ wrong
unfolding step bond_or_atom atom_begins memb marks organic ascii
early-opens Opening stk q h = refl
early-opens Bonded stk q h = refl
early-opens Closed stk q h = cc
early-opens Whole stk q h = cc
early-opens (Letter a) stk q h = cc

early-closes : (p : Place) (stk : List ℕ) (q : Rings) → follows_atom p ≡ false → step (stands (place_of p) stk q) 41 ≡ wrong
unfolding step bond_or_atom atom_begins memb marks organic ascii
early-closes Opening stk q h = refl
early-closes Bonded stk q h = refl
early-closes Closed stk q h = cc
early-closes Whole stk q h = cc
early-closes (Letter a) stk q h = cc

pub opens-step : (p : Place) (stk : List ℕ) (q : Rings) → follows_atom p ≡ true → step (stands (place_of p) stk q) 40 ≡ branch_opens stk q
unfolding step goes_on digit_or within pairs
opens-step Opening stk q h = cc
opens-step Bonded stk q h = cc
opens-step Closed stk q h = refl
opens-step Whole stk q h = refl
opens-step (Letter a) stk q h = refl

pub closes-step : (p : Place) (stk : List ℕ) (q : Rings) → follows_atom p ≡ true → step (stands (place_of p) stk q) 41 ≡ branch_closes stk q
unfolding step goes_on digit_or within pairs
closes-step Opening stk q h = cc
closes-step Bonded stk q h = cc
closes-step Closed stk q h = refl
closes-step Whole stk q h = refl
closes-step (Letter a) stk q h = refl

module _ (s : List ℕ) (r : Reached) where
  byte_step : (x : ℕ) (t o j : List ℕ) → At s r x → scan (state_of r t o j) (drop r.next s) ≡ scan (step (state_of r t o j) x) (drop (r.next + 1) s)
  byte_step x t o j v = scan-at (state_of r t o j) s r.next v.inside.more ∙ rw v.byte refl

  byte-wrong : (x : ℕ) (t o j : List ℕ) → At s r x → step (state_of r t o j) x ≡ wrong → scan (state_of r t o j) (drop r.next s) ≡ 0
  byte-wrong x t o j v e = wrong-at (state_of r t o j) s r.next v.inside.more (rw v.byte e)

  module _ (v : At s r 41) (start : ℕ) (a : Bool) (e : a ≡ follows_atom r.place) where
    pub closes-early : not a ≡ true → (t o j : List ℕ) → GoesOn s r (state_of r (start ∷ t) o j) None t o j
    closes-early f t o j = byte-wrong 41 (start ∷ t) o j v (early-closes r.place (start ∷ t) (rings_of r.atoms o j) (sym e ∙ not-true a f))

    pub branch_closes_lem : not a ≡ false → (m : Atoms) → ((o j : List ℕ) → rings_of m o j ≡ back_to start (rings_of r.atoms o j)) → (t o j : List ℕ)
        → GoesOn s r (state_of r (start ∷ t) o j) (Some (record { next = r.next + 1; place = Closed; atoms = m })) t o j
    unfolding branch_closes
    branch_closes_lem f m w t o j =
        record {
          same = byte_step 41 (start ∷ t) o j v
              ∙ (rw (closes-step r.place (start ∷ t) (rings_of r.atoms o j) (sym e ∙ not-false a f))
              (ap (λ (q : Rings). scan (stands closed t q) (drop (r.next + 1) s)) (sym (w o j))));
          further = omega arith;
          fits = record {
            within = omega (arith, v.inside.more);
            short = v.inside.fits.short;
            few = omega (arith, v.inside.fits.few, ap (λ (q : Rings). q.last) (w [] []));
          };
        }

-- ---- digits

-- a digit is nothing else
record Digit (x : ℕ) : Type 0 where
  mark : memb x marks ≡ false
  atom : memb x organic ≡ false
  bounds : (49 ≤ x) × (x ≤ 57)

neither : (b c : Bool) → (b ≡ true → c ≡ false) → c ≡ true → b ≡ false
neither true c h e = let z : ◌≡◌ {A = Bool} true false = sym e ∙ h refl in cc
neither false c h e = refl

digit-is : (x : ℕ) → within 49 57 x ≡ true → Digit x
unfolding each memb organic marks ascii within
digit-is x h =
    record {
      mark = neither (memb x marks) (within 49 57 x) (λ m. not-true (within 49 57 x) (each_of (λ (y : ℕ). not (within 49 57 y)) x marks refl m)) h;
      atom = neither (memb x organic) (within 49 57 x) (λ m. (a-letter x m).digit) h;
      bounds = within_both 49 57 x h;
    }

-- where no atom takes a digit, no tail goes on with one
closed-digit : (x : ℕ) (stk : List ℕ) (q : Rings) → within 49 57 x ≡ true → step (stands closed stk q) x ≡ wrong
unfolding step goes_on bond_or_atom atom_begins
closed-digit x stk q h =
    let d : Digit x = digit-is x h in
    rw (ne_eqb x 41 (λ e. absurd (omega (arith, d.bounds.0))), ne_eqb x 40 (λ e. absurd (omega (arith, d.bounds.0))), d.mark, d.atom, ne_eqb x 91 (λ e. absurd (omega (arith, d.bounds.1)))) refl

whole-digit : (p : Place) (x : ℕ) (stk : List ℕ) (q : Rings) → ends_atom p ≡ true → within 49 57 x ≡ true → step (stands (place_of p) stk q) x ≡ step (stands whole stk q) x
unfolding step pairs
whole-digit Opening x stk q h e = cc
whole-digit Bonded x stk q h e = cc
whole-digit Closed x stk q h e = cc
whole-digit Whole x stk q h e = refl
whole-digit (Letter a) x stk q h e =
    let b : (49 ≤ x) × (x ≤ 57) = within_both 49 57 x e in
    rw (ne_eqb x 108 (λ k. absurd (omega (arith, b.1))), ne_eqb x 114 (λ k. absurd (omega (arith, b.1)))) refl

module _ (s : List ℕ) (r : Reached) (v : Ringed s r) where
  taken : (within 49 57 (get_or s r.next 0) ≡ true) × (ends_atom r.place ≡ true)
  taken = both (within 49 57 (get_or s r.next 0)) (ends_atom r.place) v.takes

  whole-here : (t o j : List ℕ) → scan (state_of r t o j) (drop r.next s) ≡ scan (stands whole t (rings_of r.atoms o j)) (drop r.next s)
  whole-here t o j =
      same_at (state_of r t o j) (stands whole t (rings_of r.atoms o j)) s r.next v.inside.more
      (whole-digit r.place (get_or s r.next 0) t (rings_of r.atoms o j) taken.1 taken.0)

  module _ (o j : List ℕ) where
    pub ring-clash : ((stk : List ℕ) → scan (stands whole stk (rings_of r.atoms o j)) (drop r.next s) ≡ 0) → (t : List ℕ) → scan (state_of r t o j) (drop r.next s) ≡ 0
    ring-clash d t = whole-here t o j ∙ d t

    module _ (o' j' : List ℕ) (n : ℕ) (d : DigitsTo s r.next n (rings_of r.atoms o j) (rings_of r.atoms o' j')) where
      pub ring-left : n ≤ r.next → (t : List ℕ) → GoesOn s r (state_of r t o j) None t o' j'
      ring-left h t =
          let k : n ≡ r.next = omega (arith, d.least) in
          whole-here t o j ∙ (d.same t
          ∙ rw k (wrong-at (stands closed t (rings_of r.atoms o' j')) s r.next v.inside.more
          (closed-digit (get_or s r.next 0) t (rings_of r.atoms o' j') taken.0)))

      pub ring-read : r.next < n → (t : List ℕ) → GoesOn s r (state_of r t o j) (Some (record { next = n; place = Closed; atoms = r.atoms })) t o' j'
      ring-read h t =
          record {
            same = whole-here t o j ∙ d.same t;
            further = h;
            fits = record { within = d.within; short = v.inside.fits.short; few = d.few };
          }

-- ---- a bond, or an atom of any kind

-- without a digit or a second letter, the reader stands after an atom as after its digits
untaken : (b : Bool) → cond b true false ≡ false → b ≡ false
untaken true h = h
untaken false h = refl

closed-step : (p : Place) (x : ℕ) (stk : List ℕ) (q : Rings) → follows_atom p ≡ true → takes_digit p x ≡ false → pairs_at p x ≡ false
    → step (stands (place_of p) stk q) x ≡ step (stands closed stk q) x
unfolding step digit_or
closed-step Opening x stk q h d e = cc
closed-step Bonded x stk q h d e = cc
closed-step Closed x stk q h d e = refl
closed-step Whole x stk q h d e = rw (untaken (within 49 57 x) d) refl
closed-step (Letter a) x stk q h d e = rw (e, untaken (within 49 57 x) d) refl

opening-step : (p : Place) (x : ℕ) (stk : List ℕ) (q : Rings) → follows_bond p ≡ false → (x ≡ 40 → ⊥) → (x ≡ 41 → ⊥) → takes_digit p x ≡ false → pairs_at p x ≡ false
    → step (stands (place_of p) stk q) x ≡ step (stands opening stk q) x
unfolding step goes_on
opening-step Opening x stk q n a b d e = refl
opening-step Bonded x stk q n a b d e = cc
opening-step Closed x stk q n a b d e = rw (ne_eqb x 41 b, ne_eqb x 40 a) refl
opening-step Whole x stk q n a b d e = closed-step Whole x stk q refl d e ∙ rw (ne_eqb x 41 b, ne_eqb x 40 a) refl
opening-step (Letter l) x stk q n a b d e = closed-step (Letter l) x stk q refl d e ∙ rw (ne_eqb x 41 b, ne_eqb x 40 a) refl

after-bond : (p : Place) → follows_bond p ≡ true → p ≡ Bonded
after-bond Opening h = cc
after-bond Bonded h = refl
after-bond Closed h = cc
after-bond Whole h = cc
after-bond (Letter a) h = cc

module _ (s : List ℕ) (r : Reached) (v : Other s r) where
  module _ (a : Bool) (k : a ≡ follows_bond r.place) where
    pub mark-before : a ≡ true → PastMark s r r.next
    mark-before f = record { same = λ stk q. ap (λ (p : Place). scan (stands (place_of p) stk q) (drop r.next s)) (after-bond r.place (sym k ∙ f)); least = omega arith; within = v.item.inside.fits.within }

    pub mark-here : (n : ℕ) → a ≡ false → BondIs s r.next n → PastMark s r n
    mark-here n f d =
        record {
          same = λ stk q. same_at (stands (place_of r.place) stk q) (stands opening stk q) s r.next v.item.inside.more
              (opening-step r.place (get_or s r.next 0) stk q (sym k ∙ f) v.item.opens v.item.closes v.takes v.single)
              ∙ bond-scans s r.next n v.item.inside.fits.within d.is stk q;
          least = d.least;
          within = d.within;
        }

  module _ (from : ℕ) (m : PastMark s r from) where
    pub bond-read : r.next < from → (t o j : List ℕ) → GoesOn s r (state_of r t o j) (Some (record { next = from; place = Bonded; atoms = r.atoms })) t o j
    bond-read h t o j =
        record {
          same = m.same t (rings_of r.atoms o j);
          further = h;
          fits = record { within = m.within; short = v.item.inside.fits.short; few = omega (arith, v.item.inside.fits.few) };
        }

    pub other-missing : AtomIs s from None → (t o j : List ℕ) → GoesOn s r (state_of r t o j) None t o j
    other-missing a t o j = m.same t (rings_of r.atoms o j) ∙ a.says t (rings_of r.atoms o j)

    module _ (p : ℕ) (a : AtomIs s from (Some p)) where
      pub other_fits : r.atoms.last < 255
      other_fits = omega (arith, a.says.0, a.says.1, v.item.inside.fits.few, v.item.inside.fits.short, m.least)

      pub other-read : (b : Atoms) → ((o j : List ℕ) → rings_of b o j ≡ with_atom (rings_of r.atoms o j)) → (t o j : List ℕ)
          → GoesOn s r (state_of r t o j) (Some (record { next = p; place = Whole; atoms = b })) t o j
      other-read b w t o j =
          record {
            same = m.same t (rings_of r.atoms o j) ∙ (found-scans s from m.within (Some p) a.is t (rings_of r.atoms o j)
                ∙ ap (λ (q : Rings). scan (stands whole t q) (drop p s)) (sym (w o j)));
            further = omega (arith, a.says.0, m.least);
            fits = record {
              within = a.says.1;
              short = v.item.inside.fits.short;
              few = omega (arith, a.says.0, v.item.inside.fits.few, m.least, more-last r.atoms b w);
            };
          }

-- ---- an end

pub ends-late : (p : Place) (stk : List ℕ) (q : Rings) → follows_atom p ≡ true → done (stands (place_of p) stk q) ≡ finished stk q
unfolding done
ends-late Opening stk q h = cc
ends-late Bonded stk q h = cc
ends-late Closed stk q h = refl
ends-late Whole stk q h = refl
ends-late (Letter a) stk q h = refl

ends-early : (p : Place) (stk : List ℕ) (q : Rings) → follows_atom p ≡ false → done (stands (place_of p) stk q) ≡ 0
unfolding done
ends-early Opening stk q h = refl
ends-early Bonded stk q h = refl
ends-early Closed stk q h = cc
ends-early Whole stk q h = cc
ends-early (Letter a) stk q h = cc

-- in a branch
ends_open : (p : Place) (a : ℕ) (stk : List ℕ) (q : Rings) → done (stands (place_of p) (a ∷ stk) q) ≡ 0
unfolding done finished
ends_open Opening a stk q = refl
ends_open Bonded a stk q = refl
ends_open Closed a stk q = refl
ends_open Whole a stk q = refl
ends_open (Letter l) a stk q = refl

-- a `)` where no branch is open
never-closes : (p : Place) (q : Rings) → step (stands (place_of p) [] q) 41 ≡ wrong
unfolding branch_closes
never-closes Opening q = early-closes Opening [] q refl
never-closes Bonded q = early-closes Bonded [] q refl
never-closes Closed q = closes-step Closed [] q refl
never-closes Whole q = closes-step Whole [] q refl
never-closes (Letter a) q = closes-step (Letter a) [] q refl

-- ---- a run

-- the loop's invariant: the run goes on from its start as from what is reached
pub record InRun (s : List ℕ) (at depth : ℕ) (q : Rings) (r : Reached) (o j : List ℕ) : Type 0 where
  pub same : (stk : List ℕ) → length stk + depth ≡ 16 → scan (stands opening stk q) (drop at s) ≡ scan (state_of r stk o j) (drop r.next s)
  pub least : at ≤ r.next
  pub fits : Fits s r

-- what a step leaves is less
pub step_less : (s : List ℕ) (r r' : Reached) (q q' : State) → GoesTo s r q r' q' → length s - r'.next < length s - r.next
step_less s r r' q q' g = omega (arith, g.further, g.fits.within)

module _ (s : List ℕ) (at depth : ℕ) (q : Rings) (r : Reached) (o j : List ℕ) (v : InRun s at depth q r o j) where
  -- a step that no tail goes on with
  pub run-refused : ((t : List ℕ) → GoesOn s r (state_of r t o j) None t o j) → RunRead s at depth q None o j
  run-refused f stk l = v.same stk l ∙ f stk

  module _ (h : r.next < length s) where
    inside : Inside s r
    inside = record { fits = v.fits; more = h }

    pub run_on : (r' : Reached) (o' j' : List ℕ) → ((t : List ℕ) → GoesOn s r (state_of r t o j) (Some r') t o' j') → InRun s at depth q r' o' j'
    run_on r' o' j' g =
        record {
          same = λ stk l. v.same stk l ∙ (g stk).same;
          least = omega (arith, v.least, (g []).further);
          fits = (g []).fits;
        }

    module _ (e : get_or s r.next 0 ≡ 40) where
      here : At s r 40
      here = record { inside = inside; byte = e }

      module _ (a : Bool) (k : a ≡ follows_atom r.place) where
        pub run-early : not a ≡ true → RunRead s at depth q None o j
        run-early f = run-refused (λ stk. byte-wrong s r 40 stk o j here (early-opens r.place stk (rings_of r.atoms o j) (sym k ∙ not-true a f)))

        module _ (f : a ≡ true) where
          late : follows_atom r.place ≡ true
          late = sym k ∙ f

          pub too-deep : depth ≡ 0 → RunRead s at depth q None o j
          unfolding branch_opens
          too-deep z stk l =
              v.same stk l
              ∙ byte-wrong s r 40 stk o j here (opens-step r.place stk (rings_of r.atoms o j) late ∙ rw (le-ltb (length stk) 16 (omega arith)) refl)

          -- the branch opens
          module _ (z : depth ≡ 0 → ⊥) where
            opened : (stk : List ℕ) → length stk + depth ≡ 16
                → scan (state_of r stk o j) (drop r.next s) ≡ scan (stands opening (r.atoms.current ∷ stk) (rings_of r.atoms o j)) (drop (r.next + 1) s)
            unfolding branch_opens
            opened stk l = byte_step s r 40 stk o j here ∙ rw (opens-step r.place stk (rings_of r.atoms o j) late, lt-ltb (length stk) 16 (omega arith)) refl

            pub branch-refused : RunRead s (r.next + 1) (depth - 1) (rings_of r.atoms o j) None o j → RunRead s at depth q None o j
            branch-refused d stk l = v.same stk l ∙ (opened stk l ∙ d (r.atoms.current ∷ stk) (omega arith))

            -- the run in the branch, and what it leaves
            module _ (i : Reached) (o' j' : List ℕ) (d : RunTo s (r.next + 1) (depth - 1) (rings_of r.atoms o j) i o' j') where
              into : (stk : List ℕ) → length stk + depth ≡ 16 → scan (state_of r stk o j) (drop r.next s) ≡ scan (state_of i (r.atoms.current ∷ stk) o' j') (drop i.next s)
              into stk l = opened stk l ∙ d.same (r.atoms.current ∷ stk) (omega arith)

              pub branch-cut : i.next ≡ length s → RunRead s at depth q None o' j'
              branch-cut w stk l =
                  v.same stk l
                  ∙ (into stk l ∙ (scan-end (state_of i (r.atoms.current ∷ stk) o' j') s i.next w ∙ ends_open i.place r.atoms.current stk (rings_of i.atoms o' j')))

              module _ (w : i.next ≡ length s → ⊥) where
                pub branch-open : ((t o j : List ℕ) → GoesOn s i (state_of i (r.atoms.current ∷ t) o j) None t o j) → RunRead s at depth q None o' j'
                branch-open g stk l = v.same stk l ∙ (into stk l ∙ g stk o' j')

                module _ (r' : Reached) (g : (t o j : List ℕ) → GoesOn s i (state_of i (r.atoms.current ∷ t) o j) (Some r') t o j) where
                  pub branch-done : InRun s at depth q r' o' j'
                  branch-done =
                      record {
                        same = λ stk l. v.same stk l ∙ (into stk l ∙ (g stk o' j').same);
                        least = omega (arith, v.least, d.least, (g [] o' j').further);
                        fits = (g [] o' j').fits;
                      }

                  pub branch_less : length s - r'.next < length s - r.next
                  branch_less = omega (arith, d.least, (g [] o' j').further, (g [] o' j').fits.within)

-- ---- the whole tail

pub tail-empty : (s : List ℕ) (a : Bool) → a ≡ eqb (length s) 0 → a ≡ true → 0 ≡ atoms_of_tail s
unfolding atoms_of_tail within
tail-empty s a e f = rw (eqb-true (length s) 0 (sym e ∙ f))

module _ (s : List ℕ) (a : Bool) (e : a ≡ eqb (length s) 0) (f : a ≡ false) where
  some : 1 ≤ length s
  some = go (length s) (sym e ∙ f)
    where
      go : (n : ℕ) → eqb n 0 ≡ false → 1 ≤ n
      go zero h = cc
      go (suc n) h = omega arith

  pub tail-long : 255 < length s → 0 ≡ atoms_of_tail s
  unfolding atoms_of_tail within
  tail-long g = rw (le-leb 1 (length s) some, lt-leb (length s) 255 g)

  module _ (g : length s ≤ 255) where
    whole-tail : atoms_of_tail s ≡ scan (stands opening [] no_rings) s
    unfolding atoms_of_tail within
    whole-tail = rw (le-leb 1 (length s) some, le-leb (length s) 255 g) refl

    pub tail-refused : RunRead s 0 16 no_rings None [] [] → 0 ≡ atoms_of_tail s
    tail-refused d = sym (whole-tail ∙ d [] (omega arith))

    module _ (r : Reached) (o j : List ℕ) (d : RunTo s 0 16 no_rings r o j) where
      starts : atoms_of_tail s ≡ scan (state_of r [] o j) (drop r.next s)
      starts = whole-tail ∙ d.same [] (omega arith)

      pub tail-closes : r.next < length s → 0 ≡ atoms_of_tail s
      tail-closes w =
          sym (starts ∙ wrong-at (state_of r [] o j) s r.next w (rw (d.stops w) (never-closes r.place (rings_of r.atoms o j))))

      module _ (w : length s ≤ r.next) where
        ends : atoms_of_tail s ≡ done (state_of r [] o j)
        ends = starts ∙ scan-end (state_of r [] o j) s r.next (omega (arith, d.fits.within))

        module _ (b : Bool) (k : b ≡ follows_atom r.place) where
          pub tail-early : not b ≡ true → 0 ≡ atoms_of_tail s
          tail-early z = sym (ends ∙ ends-early r.place [] (rings_of r.atoms o j) (sym k ∙ not-true b z))

          module _ (y : not b ≡ false) (n : Bool) (x : n ≡ none_open o) where
            ends_so : atoms_of_tail s ≡ cond n r.atoms.last 0
            unfolding finished
            ends_so = ends ∙ (ends-late r.place [] (rings_of r.atoms o j) (sym k ∙ not-false b y) ∙ rw x refl)

            pub tail-open : not n ≡ true → 0 ≡ atoms_of_tail s
            tail-open z = sym (ends_so ∙ rw (not-true n z) refl)

            pub tail-ends : not n ≡ false → r.atoms.last ≡ atoms_of_tail s
            tail-ends z = sym (ends_so ∙ rw (not-false n z) refl)
