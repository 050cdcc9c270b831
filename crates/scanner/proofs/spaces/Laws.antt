-- Laws of the spaces around a part: a turn of the loop from the end and each way out, and the trimmed part.
-- Assumes nothing.
use Prim.Native.Nat.{ℕ, zero, suc, ◌+◌, ◌-◌, ◌≤◌, ◌<◌}
use native.Mathlib.Nat.{le_refl}
use native.Mathlib.Omega.{arith}
use mathlib.Core.Path.{◌≡◌, refl, sym, ap, ◌∙◌}
use mathlib.Core.Bool.{Bool, true, false, not, cond}
use mathlib.Core.List.{List, [], ◌∷◌, ◌++◌}
use lib.ListN.{length, take, drop, get_or}
use lib.Seq.{take-suc, take_all, length-take-le}
use lib.Dec.{eqb}
use borrow.Author.Tests.{eq-eqb, ne_eqb}
use Rattle.scanner.specs.part.Part.{Place, first_byte, leading, ending_after, ending, trimmed}
use Rattle.scanner.proofs.part.Laws.{first-here}

-- the test for a space, by what the code asks
module _ (s t : List ℕ) (i : ℕ) (l : 0 < length t) where
  pub space-end : (get_or t 0 0 ≡ 32 → ⊥) → leading s ≡ i + leading t → Place s (leading s) i
  space-end e h = first-here (λ x. not (eqb x 32)) s t i h l (ap not (ne_eqb _ 32 e))

-- ---- the last byte that is no space

ending-snoc : (xs : List ℕ) (x : ℕ) → ending (xs ++ (x ∷ [])) ≡ cond (eqb x 32) (ending xs) (suc (length xs))
unfolding ending ending_after
ending-snoc [] x = go (eqb x 32)
  where
    go : (b : Bool) → ending_after b 0 ≡ cond b 0 1
    go true = refl
    go false = refl
ending-snoc (y ∷ xs) x = rw (ending-snoc xs x) (go (eqb x 32) (eqb y 32))
  where
    go : (b e : Bool) → ending_after e (cond b (ending xs) (suc (length xs))) ≡ cond b (ending_after e (ending xs)) (suc (suc (length xs)))
    go true e = refl
    go false true = refl
    go false false = refl

module _ (s : List ℕ) (n : ℕ) (l : 0 < n) (g : n ≤ length s) where
  ending-last : ending (take n s) ≡ cond (eqb (get_or s (n - 1) 0) 32) (ending (take (n - 1) s)) n
  ending-last =
      let e : n ≡ suc (n - 1) = omega arith in
      ap (λ (k : ℕ). ending (take k s)) e
      ∙ ap ending (take-suc s (n - 1) 0 (omega arith))
      ∙ ending-snoc (take (n - 1) s) (get_or s (n - 1) 0)
      ∙ ap (λ (k : ℕ). cond (eqb (get_or s (n - 1) 0) 32) (ending (take (n - 1) s)) k) (omega (arith, length-take-le (n - 1) s (omega arith)))

  pub end-space : get_or s (n - 1) 0 ≡ 32 → ending s ≡ ending (take n s) → ending s ≡ ending (take (n - 1) s)
  end-space e h = h ∙ (rw (eq-eqb _ 32 e) at ending-last)

  pub end-here : (get_or s (n - 1) 0 ≡ 32 → ⊥) → ending s ≡ ending (take n s) → Place s (ending s) n
  end-here e h = record { is = sym (h ∙ (rw (ne_eqb _ 32 e) at ending-last)); within = g }

  -- the place after the byte that a turn from the end looks at
  pub end-turn : (get_or s (n - 1) 0 ≡ 32 → ⊥) → ending s ≡ ending (take n s) → Place s (ending s) (n - 1 + 1)
  end-turn e h = let f : n - 1 + 1 ≡ n = omega arith in rw f (end-here e h)

pub end_none : (s : List ℕ) (n : ℕ) → n ≤ 0 → ending s ≡ ending (take n s) → Place s (ending s) 0
unfolding ending
end_none s zero l h = record { is = sym h; within = omega arith }
end_none s (suc n) l h = absurd (omega arith)

-- ---- the trimmed part

pub trim-blank : (s : List ℕ) (from to : ℕ) → Place s (leading s) from → Place s (ending s) to → to < from → take (0 - 0) s ≡ trimmed s
unfolding trimmed
trim-blank s from to f e h = let z : ending s - leading s ≡ 0 = omega (arith, f.is, e.is) in rw z

pub trim-part : (s : List ℕ) (from to : ℕ) → Place s (leading s) from → Place s (ending s) to → take (to - from) (drop from s) ≡ trimmed s
unfolding trimmed
trim-part s from to f e = rw (f.is, e.is)

pub trim-none : (s : List ℕ) → length s ≡ 0 → s ≡ trimmed s
unfolding trimmed ending first_byte
trim-none [] l = refl
trim-none (x ∷ xs) l = absurd (omega arith)

-- no space leads and none ends
pub trim-whole : (s : List ℕ) → (length s ≡ 0 → ⊥) → (get_or s 0 0 ≡ 32 → ⊥) → (get_or s (length s - 1) 0 ≡ 32 → ⊥) → s ≡ trimmed s
trim-whole s l a b =
    let m : 0 < length s = omega arith in
    let from : Place s (leading s) 0 = space-end s s 0 m a (omega arith) in
    let to : Place s (ending s) (length s) = end-here s (length s) m (le_refl (length s)) b (sym (ap ending (take_all (length s) s (le_refl (length s))))) in
    sym (take_all (length s - 0) s (omega arith)) ∙ trim-part s 0 (length s) from to
