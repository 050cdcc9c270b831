-- Laws of a segment's text: for each loop a turn and each way out.
-- Assumes nothing.
use Prim.Native.Nat.{ℕ, zero, suc, ◌-◌, ◌≤◌, ◌<◌}
use native.Mathlib.Nat.{sub-zero}
use native.Mathlib.Omega.{arith}
use mathlib.Core.Path.{◌≡◌, refl, sym, ap, ◌∙◌}
use mathlib.Core.Bool.{Bool, true, false, cond}
use mathlib.Core.List.{List, [], ◌∷◌, ◌++◌}
use lib.ListN.{length, take, drop, get_or}
use lib.Seq.{take-suc, take-length}
use lib.Dec.{eqb}
use borrow.Author.Tests.{eq-eqb, ne_eqb}
use Rattle.scanner.proofs.scan.Laws.{to_end}
use Rattle.scanner.specs.scan.Part.{trimmed}
use Rattle.token_syntax.specs.brackets.Brackets.{after_opening, unless_closing, before_closing, segment_text}

module _ (A : List ℕ) where
  pub opening-end : (t : List ℕ) → 0 < length t → (get_or t 0 0 ≡ 91 → ⊥) → A ≡ after_opening t → t ≡ A
  unfolding after_opening
  opening-end [] l n h = absurd (omega arith)
  opening-end (x ∷ xs) l n h = sym (h ∙ rw (ne_eqb x 91 n))

  pub opening-more : (t : List ℕ) → 0 < length t → get_or t 0 0 ≡ 91 → A ≡ after_opening t → A ≡ after_opening (take (length t - 1) (drop 1 t))
  unfolding after_opening
  opening-more [] l e h = absurd (omega arith)
  opening-more (x ∷ xs) l e h = rw (to_end 1 (x ∷ xs)) (h ∙ rw (eq-eqb x 91 e))

  pub opening-none : (t : List ℕ) → length t ≤ 0 → A ≡ after_opening t → t ≡ A
  unfolding after_opening
  opening-none [] l h = sym h
  opening-none (x ∷ xs) l h = absurd (omega arith)

closing-kept : (b : Bool) (y x : ℕ) (xs : List ℕ) → unless_closing b y (xs ++ (x ∷ [])) ≡ y ∷ (xs ++ (x ∷ []))
closing-kept true y x [] = refl
closing-kept true y x (z ∷ xs) = refl
closing-kept false y x xs = refl

closing-snoc : (xs : List ℕ) (x : ℕ) → before_closing (xs ++ (x ∷ [])) ≡ cond (eqb x 93) (before_closing xs) (xs ++ (x ∷ []))
unfolding before_closing
closing-snoc [] x = go (eqb x 93)
  where
    go : (b : Bool) → unless_closing b x [] ≡ cond b [] (x ∷ [])
    go true = refl
    go false = refl
closing-snoc (y ∷ xs) x = rw (closing-snoc xs x) (go (eqb x 93))
  where
    go : (b : Bool) → unless_closing (eqb y 93) y (cond b (before_closing xs) (xs ++ (x ∷ []))) ≡ cond b (unless_closing (eqb y 93) y (before_closing xs)) (y ∷ (xs ++ (x ∷ [])))
    go true = refl
    go false = closing-kept (eqb y 93) y x xs

module _ (s : List ℕ) (n : ℕ) (l : 0 < n) (g : n ≤ length s) where
  last-split : take n s ≡ take (n - 1) s ++ (get_or s (n - 1) 0 ∷ [])
  last-split = let e : n ≡ suc (n - 1) = omega arith in ap (λ (k : ℕ). take k s) e ∙ take-suc s (n - 1) 0 (omega arith)

  pub closing_end : (get_or s (n - 1) 0 ≡ 93 → ⊥) → before_closing s ≡ before_closing (take n s) → take (n - 0) s ≡ before_closing s
  closing_end e h = rw (sub-zero n) (sym (h ∙ ap before_closing last-split ∙ closing-snoc (take (n - 1) s) (get_or s (n - 1) 0) ∙ rw (ne_eqb _ 93 e) (sym last-split)))

  pub closing-more : get_or s (n - 1) 0 ≡ 93 → before_closing s ≡ before_closing (take n s) → before_closing s ≡ before_closing (take (n - 1) s)
  closing-more e h = h ∙ ap before_closing last-split ∙ closing-snoc (take (n - 1) s) (get_or s (n - 1) 0) ∙ rw (eq-eqb _ 93 e)

pub closing-start : (s : List ℕ) → before_closing s ≡ before_closing (take (length s) s)
closing-start s = rw (take-length s)

pub closing-none : (s : List ℕ) (n : ℕ) → n ≤ 0 → before_closing s ≡ before_closing (take n s) → take (n - 0) s ≡ before_closing s
unfolding before_closing
closing-none s zero l h = sym h
closing-none s (suc n) l h = absurd (omega arith)

pub segment-is : (s t u v : List ℕ) → t ≡ trimmed s → u ≡ after_opening t → v ≡ before_closing u → v ≡ segment_text s
unfolding segment_text
segment-is s t u v e f g = g ∙ rw (f, e)
