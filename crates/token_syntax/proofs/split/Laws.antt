-- Laws of the parts between bytes b: the loop's turn and each way out, and what callers use.
-- Assumes nothing.
use Prim.Native.Nat.{ℕ, suc, ◌+◌, ◌-◌, ◌<◌}
use native.Mathlib.Nat.{eq-or-lt_of_le, sub-zero}
use native.Mathlib.Numerals.{add-one}
use native.Mathlib.Omega.{arith}
use mathlib.Core.Logic.{⊎_elim}
use mathlib.Core.Path.{◌≡◌, refl, sym, ap, ◌∙◌}
use mathlib.Core.Bool.{Bool, true, false, cond}
use mathlib.Core.List.{List, [], ◌∷◌}
use lib.ListN.{length, take, drop}
use lib.Seq.{take_all}
use lib.Dec.{eqb}
use Rattle.scanner.proofs.scan.Laws.{to_end}
use Rattle.scanner.specs.scan.Part.{Place, first_byte, index_of}
use Rattle.token_syntax.specs.split.Parts.{onto, parts_at, list_parts}

split-more : (b : ℕ) (t : List ℕ) → index_of b t < length t → parts_at b t ≡ take (index_of b t) t ∷ parts_at b (drop (suc (index_of b t)) t)
unfolding first_byte parts_at
split-more b [] h = absurd (omega arith)
split-more b (x ∷ xs) h = go (eqb x b) h (split-more b xs)
  where
    go : (e : Bool) → cond e 0 (suc (index_of b xs)) < suc (length xs)
        → (index_of b xs < length xs → parts_at b xs ≡ take (index_of b xs) xs ∷ parts_at b (drop (suc (index_of b xs)) xs))
        → cond e ([] ∷ parts_at b xs) (onto x (parts_at b xs)) ≡ take (cond e 0 (suc (index_of b xs))) (x ∷ xs) ∷ parts_at b (drop (suc (cond e 0 (suc (index_of b xs)))) (x ∷ xs))
    go true h f = refl
    go false h f = ap (onto x) (f (omega arith))

split-last : (b : ℕ) (t : List ℕ) → index_of b t ≡ length t → parts_at b t ≡ t ∷ []
unfolding first_byte parts_at
split-last b [] h = refl
split-last b (x ∷ xs) h = go (eqb x b) h (split-last b xs)
  where
    go : (e : Bool) → cond e 0 (suc (index_of b xs)) ≡ suc (length xs) → (index_of b xs ≡ length xs → parts_at b xs ≡ xs ∷ [])
        → cond e ([] ∷ parts_at b xs) (onto x (parts_at b xs)) ≡ (x ∷ xs) ∷ []
    go true h f = absurd (omega arith)
    go false h f = ap (onto x) (f (omega arith))

module _ (b : ℕ) (t : List ℕ) (n : ℕ) (f : Place t (index_of b t) n) where
  -- no byte b: the part is the only one
  pub parts_last : n ≡ length t → parts_at b t ≡ take (n - 0) t ∷ []
  parts_last h = rw (sub-zero n, take_all n t (omega arith)) (split-last b t (sym f.is ∙ h))

  -- a byte b: the part before it, then those of what follows it
  pub parts_more : (n ≡ length t → ⊥) → parts_at b t ≡ take (n - 0) t ∷ parts_at b (take (length t - (n + 1)) (drop (n + 1) t))
  parts_more h = rw (to_end (n + 1) t, add-one n, sub-zero n, f.is) (split-more b t (omega (arith, f.is, f.within)))

  -- in both cases the part comes first
  pub parts_first : (ss : List (List ℕ)) × (parts_at b t ≡ take (n - 0) t ∷ ss)
  parts_first = ⊎_elim (λ h. ([], parts_last h)) (λ h. (parts_at b (take (length t - (n + 1)) (drop (n + 1) t)), parts_more (λ e. omega arith))) (eq-or-lt_of_le f.within)

pub list-none : (s : List ℕ) → length s ≡ 0 → list_parts s ≡ []
unfolding list_parts
list-none [] h = refl
list-none (x ∷ xs) h = absurd (omega arith)

pub list-some : (s : List ℕ) → (length s ≡ 0 → ⊥) → list_parts s ≡ parts_at 44 s
unfolding list_parts
list-some [] h = absurd (h refl)
list-some (x ∷ xs) h = refl

pub count_none : (s : List ℕ) → length s ≡ 0 → 0 ≡ length (list_parts s)
count_none s h = rw (list-none s h)

pub count-start : (s : List ℕ) → (length s ≡ 0 → ⊥) → length (list_parts s) ≡ 0 + length (parts_at 44 s)
count-start s h = omega (arith, ap length (list-some s h))

module _ (A : ℕ) (t : List ℕ) (n k : ℕ) (f : Place t (index_of 44 t) k) (h : A ≡ n + length (parts_at 44 t)) where
  pub count-last : k ≡ length t → n + 1 ≡ A
  count-last e = let z = rw (parts_last 44 t k f e) at h in omega arith

  pub count-more : (k ≡ length t → ⊥) → A ≡ n + 1 + length (parts_at 44 (take (length t - (k + 1)) (drop (k + 1) t)))
  count-more e = let z = rw (parts_more 44 t k f e) at h in omega arith
