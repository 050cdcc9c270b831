-- How a tail goes on after a bond and after an atom: the definitions as steps of the grammar.
-- Assumes nothing.
use Prim.Native.Nat.{ℕ, zero, suc, ◌+◌, ◌≤◌, ◌<◌}
use native.Mathlib.Omega.{arith}
use mathlib.Core.Path.{◌≡◌, refl, sym, ap, ◌∙◌}
use mathlib.Core.Bool.{Bool, true, false, cond, ◌&&◌, true≢false}
use mathlib.Core.List.{List, [], ◌∷◌}
use lib.Dec.{eqb, ltb}
use lib.ListN.{length, drop, get_or, length-drop}
use lib.Seq.{get_or-drop, drop-drop}
use borrow.Author.Tests.{eqb-true, ltb-true, ltb-false}
use Rattle.reading_rules.specs.reading.Lexer.{memb, within, organic, marks, bracketed, pairs}
use Rattle.tail_grammar.specs.ringdigits.Grammar.{Rings, with_atom, wrong, stands, opening, after_bond, whole, letter, inside, atom_begins, bond_or_atom, bracket_on, step, done, scan}
use Rattle.tail_grammar.proofs.ringdigits.Scan.{scan-wrong, scan-at, scan-end, same_at}
use Rattle.std.specs.Prelude.{Option, Some, None}
use Rattle.tail_grammar.specs.tailatom.Atom.{bond_at, bracket_run, closed_at, bracket_at, atom_at, Says, AtomIs}

pub past_end : (s : List ℕ) (i : ℕ) → length s ≤ i → get_or s i 0 ≡ 0
past_end [] i h = refl
past_end (x ∷ s) zero h = absurd (omega (arith, h))
past_end (x ∷ s) (suc i) h = past_end s i (omega (arith, h))

-- a place of a text is its end, or has a byte
by_end : {A : Type 0} (s : List ℕ) (i : ℕ) → i ≤ length s → (i ≡ length s → A) → (i < length s → A) → A
by_end {A} s i h f g = go (ltb i (length s)) refl
  where
    go : (b : Bool) → ltb i (length s) ≡ b → A
    go true e = g (ltb-true i (length s) e)
    go false e = f (omega (arith, h, ltb-false i (length s) e))

-- ---- a bond

-- a tail goes on from an opening as it goes on after the bond
pub bond-scans : (s : List ℕ) (at next : ℕ) → at ≤ length s → next ≡ bond_at s at → (stk : List ℕ) (q : Rings)
    → scan (stands opening stk q) (drop at s) ≡ scan (stands after_bond stk q) (drop next s)
unfolding bond_at step bond_or_atom done memb marks
bond-scans s at next h e stk q = rw e (by_end s at h none one)
  where
    none : at ≡ length s → scan (stands opening stk q) (drop at s) ≡ scan (stands after_bond stk q) (drop (bond_at s at) s)
    none w = rw (past_end s at (omega arith)) (scan-end (stands opening stk q) s at w ∙ sym (scan-end (stands after_bond stk q) s at w))

    one : at < length s → scan (stands opening stk q) (drop at s) ≡ scan (stands after_bond stk q) (drop (bond_at s at) s)
    one w = go (memb (get_or s at 0) marks) refl
      where
        go : (b : Bool) → memb (get_or s at 0) marks ≡ b → scan (stands opening stk q) (drop at s) ≡ scan (stands after_bond stk q) (drop (cond b (at + 1) at) s)
        go true k = scan-at (stands opening stk q) s at w ∙ rw k refl
        go false k = same_at (stands opening stk q) (stands after_bond stk q) s at w (rw k refl)

-- ---- a bracket

-- how a tail goes on after an atom that is found or not
abbrev pub after_found : List ℕ → List ℕ → Rings → Option ℕ → ℕ
after_found s stk q (Some p) = scan (stands whole stk q) (drop p s)
after_found s stk q None = 0

run-le : (xs : List ℕ) → bracket_run xs ≤ length xs
unfolding bracket_run
run-le [] = omega arith
run-le (x ∷ xs) = go (bracketed x) (run-le xs)
  where
    go : (b : Bool) → bracket_run xs ≤ length xs → cond b (suc (bracket_run xs)) 0 ≤ suc (length xs)
    go true h = omega (arith, h)
    go false h = omega arith

-- what stands after it may not stand in a bracket
run_ends : (xs : List ℕ) → bracket_run xs < length xs → bracketed (get_or xs (bracket_run xs) 0) ≡ false
unfolding bracket_run
run_ends [] h = absurd (omega (arith, h))
run_ends (x ∷ xs) h = go (bracketed x) refl h (run_ends xs)
  where
    go : (b : Bool) → bracketed x ≡ b → cond b (suc (bracket_run xs)) 0 < suc (length xs) → (bracket_run xs < length xs → bracketed (get_or xs (bracket_run xs) 0) ≡ false)
        → bracketed (get_or (x ∷ xs) (cond b (suc (bracket_run xs)) 0) 0) ≡ false
    go true e g k = k (omega (arith, g))
    go false e g k = e

run-scans : (xs : List ℕ) (k : ℕ) (stk : List ℕ) (q : Rings) → scan (stands (inside k) stk q) xs ≡ scan (stands (inside (k + bracket_run xs)) stk q) (drop (bracket_run xs) xs)
unfolding bracket_run scan step bracket_on
run-scans [] k stk q = refl
run-scans (x ∷ xs) k stk q = go (bracketed x) refl (run-scans xs (suc k) stk q)
  where
    more : (n : ℕ) → scan (stands (inside (suc k + n)) stk q) (drop n xs) ≡ scan (stands (inside (k + suc n)) stk q) (drop n xs)
    more n = ap (λ (m : ℕ). scan (stands (inside m) stk q) (drop n xs)) (omega arith)

    go : (b : Bool) → bracketed x ≡ b → scan (stands (inside (suc k)) stk q) xs ≡ scan (stands (inside (suc k + bracket_run xs)) stk q) (drop (bracket_run xs) xs)
        → scan (stands (inside k) stk q) (x ∷ xs) ≡ scan (stands (inside (k + cond b (suc (bracket_run xs)) 0)) stk q) (drop (cond b (suc (bracket_run xs)) 0) (x ∷ xs))
    go true e h = rw e (h ∙ more (bracket_run xs))
    go false e h = ap (λ (m : ℕ). scan (stands (inside m) stk q) (x ∷ xs)) (omega arith)

bracket-scans : (s : List ℕ) (at : ℕ) → at ≤ length s → (stk : List ℕ) (q : Rings) → scan (stands (inside 0) stk q) (drop at s) ≡ after_found s stk q (bracket_at s at)
unfolding bracket_at closed_at done step bracket_on
bracket-scans s at h stk q =
    run-scans (drop at s) 0 stk q
    ∙ (ap (λ (l : List ℕ). scan (stands (inside (0 + bracket_run (drop at s))) stk q) l) (drop-drop (bracket_run (drop at s)) at s)
    ∙ (ap (λ (m : ℕ). scan (stands (inside m) stk q) (drop (at + bracket_run (drop at s)) s)) (omega arith)
    ∙ by_end s (at + n) (omega (arith, h, run-le (drop at s), length-drop at s)) cut shut))
  where
    n : ℕ
    n = bracket_run (drop at s)

    cut : at + n ≡ length s → scan (stands (inside n) stk q) (drop (at + n) s) ≡ after_found s stk q (closed_at s at n)
    cut w = rw (past_end s (at + n) (omega arith)) (scan-end (stands (inside n) stk q) s (at + n) w)

    shut : at + n < length s → scan (stands (inside n) stk q) (drop (at + n) s) ≡ after_found s stk q (closed_at s at n)
    shut w =
        let over : bracketed (get_or s (at + n) 0) ≡ false = rw (← get_or-drop at s n 0) (run_ends (drop at s) (omega (arith, w, length-drop at s))) in
        scan-at (stands (inside n) stk q) s (at + n) w ∙ rw over (go (eqb (get_or s (at + n) 0) 93 && within 1 16 n))
      where
        go : (b : Bool) → scan (cond b (stands whole stk q) wrong) (drop (at + n + 1) s) ≡ after_found s stk q (cond b (Some (at + n + 1)) None)
        go true = refl
        go false = scan-wrong (drop (at + n + 1) s)

-- ---- an atom

-- no letter makes one atom with the end of the text
alone : (a x : ℕ) → x ≡ 0 → pairs a x ≡ false
unfolding pairs
alone a x e = rw e refl

-- a letter, and the letter after it where both are one atom
letter-scans : (s : List ℕ) (at : ℕ) → at < length s → (stk : List ℕ) (q : Rings)
    → scan (stands (letter (get_or s at 0)) stk q) (drop (at + 1) s) ≡ scan (stands whole stk q) (drop (cond (pairs (get_or s at 0) (get_or s (at + 1) 0)) (at + 1 + 1) (at + 1)) s)
unfolding step done
letter-scans s at h stk q = by_end s (at + 1) (omega arith) last more
  where
    last : at + 1 ≡ length s
        → scan (stands (letter (get_or s at 0)) stk q) (drop (at + 1) s) ≡ scan (stands whole stk q) (drop (cond (pairs (get_or s at 0) (get_or s (at + 1) 0)) (at + 1 + 1) (at + 1)) s)
    last w =
        rw (alone (get_or s at 0) (get_or s (at + 1) 0) (past_end s (at + 1) (omega arith))) (scan-end (stands (letter (get_or s at 0)) stk q) s (at + 1) w ∙ sym (scan-end (stands whole stk q) s (at + 1) w))

    more : at + 1 < length s
        → scan (stands (letter (get_or s at 0)) stk q) (drop (at + 1) s) ≡ scan (stands whole stk q) (drop (cond (pairs (get_or s at 0) (get_or s (at + 1) 0)) (at + 1 + 1) (at + 1)) s)
    more w = go (pairs (get_or s at 0) (get_or s (at + 1) 0)) refl
      where
        go : (b : Bool) → pairs (get_or s at 0) (get_or s (at + 1) 0) ≡ b
            → scan (stands (letter (get_or s at 0)) stk q) (drop (at + 1) s) ≡ scan (stands whole stk q) (drop (cond b (at + 1 + 1) (at + 1)) s)
        go true k = scan-at (stands (letter (get_or s at 0)) stk q) s (at + 1) w ∙ rw k refl
        go false k = same_at (stands (letter (get_or s at 0)) stk q) (stands whole stk q) s (at + 1) w (rw k refl)

-- a tail goes on after a bond as it goes on after the atom
atom-scans : (s : List ℕ) (at : ℕ) → at ≤ length s → (stk : List ℕ) (q : Rings) → scan (stands after_bond stk q) (drop at s) ≡ after_found s stk (with_atom q) (atom_at s at)
unfolding atom_at done memb organic step atom_begins
atom-scans s at h stk q = by_end s at h none some
  where
    none : at ≡ length s → scan (stands after_bond stk q) (drop at s) ≡ after_found s stk (with_atom q) (atom_at s at)
    none w = rw (past_end s at (omega arith)) (scan-end (stands after_bond stk q) s at w)

    some : at < length s → scan (stands after_bond stk q) (drop at s) ≡ after_found s stk (with_atom q) (atom_at s at)
    some w = scan-at (stands after_bond stk q) s at w ∙ go (memb (get_or s at 0) organic) (eqb (get_or s at 0) 91)
      where
        go : (a b : Bool) → scan (cond a (stands (letter (get_or s at 0)) stk (with_atom q)) (cond b (stands (inside 0) stk (with_atom q)) wrong)) (drop (at + 1) s)
            ≡ after_found s stk (with_atom q) (cond a (Some (cond (pairs (get_or s at 0) (get_or s (at + 1) 0)) (at + 1 + 1) (at + 1))) (cond b (bracket_at s (at + 1)) None))
        go true b = letter-scans s at w stk (with_atom q)
        go false true = bracket-scans s (at + 1) (omega arith) stk (with_atom q)
        go false false = scan-wrong (drop (at + 1) s)

-- ---- what each answer says

-- an atom that is found ends on the text
abbrev Passed : List ℕ → ℕ → Option ℕ → Type 0
Passed s at (Some p) = (at < p) × (p ≤ length s)
Passed s at None = Unit {0}

-- a byte that is not 0 stands on the text
on-text : (s : List ℕ) (i : ℕ) → (get_or s i 0 ≡ 0 → ⊥) → i < length s
on-text [] i n = absurd (n refl)
on-text (x ∷ s) zero n = omega arith
on-text (x ∷ s) (suc i) n = omega (arith, on-text s i n)

closed-passed : (s : List ℕ) (at n : ℕ) → Passed s at (closed_at s at n)
unfolding closed_at
closed-passed s at n = go (eqb (get_or s (at + n) 0) 93) refl (within 1 16 n)
  where
    go : (a : Bool) → eqb (get_or s (at + n) 0) 93 ≡ a → (b : Bool) → Passed s at (cond (a && b) (Some (at + n + 1)) None)
    go true e true =
        let z : get_or s (at + n) 0 ≡ 93 = eqb-true (get_or s (at + n) 0) 93 e in
        (omega arith, omega (arith, on-text s (at + n) (λ w. absurd (omega (arith, z, w)))))
    go true e false = tt
    go false e b = tt

passed-more : (s : List ℕ) (at : ℕ) (r : Option ℕ) → Passed s (at + 1) r → Passed s at r
passed-more s at (Some p) h = (omega (arith, h.0), h.1)
passed-more s at None h = tt

atom-passed : (s : List ℕ) (at : ℕ) → Passed s at (atom_at s at)
unfolding atom_at bracket_at memb organic
atom-passed s at = go (memb (get_or s at 0) organic) refl (eqb (get_or s at 0) 91)
  where
    first : memb (get_or s at 0) organic ≡ true → at < length s
    first e = on-text s at (λ z. absurd (true≢false (sym (rw z at e))))

    go : (a : Bool) → memb (get_or s at 0) organic ≡ a → (b : Bool)
        → Passed s at (cond a (Some (cond (pairs (get_or s at 0) (get_or s (at + 1) 0)) (at + 1 + 1) (at + 1))) (cond b (bracket_at s (at + 1)) None))
    go true e b = two (pairs (get_or s at 0) (get_or s (at + 1) 0)) refl
      where
        two : (c : Bool) → pairs (get_or s at 0) (get_or s (at + 1) 0) ≡ c → Passed s at (Some (cond c (at + 1 + 1) (at + 1)))
        two true k = (omega arith, omega (arith, on-text s (at + 1) (λ z. absurd (true≢false (sym k ∙ alone (get_or s at 0) (get_or s (at + 1) 0) z)))))
        two false k = (omega arith, omega (arith, first e))
    go false e true = passed-more s at (bracket_at s (at + 1)) (closed-passed s (at + 1) (bracket_run (drop (at + 1) s)))
    go false e false = tt

-- how a tail goes on after what is found, where it is found as the definition says
pub found-scans : (s : List ℕ) (at : ℕ) → at ≤ length s → (r : Option ℕ) → r ≡ atom_at s at → (stk : List ℕ) (q : Rings)
    → scan (stands after_bond stk q) (drop at s) ≡ after_found s stk (with_atom q) r
found-scans s at h r e stk q = rw e (atom-scans s at h stk q)

-- what is found so is the atom
pub atom-is : (s : List ℕ) (at : ℕ) → at ≤ length s → (r : Option ℕ) → r ≡ atom_at s at → AtomIs s at r
atom-is s at h r e = record { is = e; says = go r (found-scans s at h r e) (rw e (atom-passed s at)) }
  where
    go : (f : Option ℕ) → ((stk : List ℕ) (q : Rings) → scan (stands after_bond stk q) (drop at s) ≡ after_found s stk (with_atom q) f) → Passed s at f → Says s at f
    go (Some p) w g = g
    go None w g = w
