-- Laws of four places with a count.
-- Assumes nothing.
use Prim.Native.Nat.{ℕ, ◌+◌, ◌≤◌, ◌<◌}
use native.Mathlib.Omega.{arith}
use mathlib.Core.Path.{◌≡◌, refl, ap, ap₂, ◌∙◌}
use mathlib.Core.List.{List, [], ◌∷◌, ◌++◌, append-nil, append_assoc}
use lib.ListN.{length, take, set, replicate}
use lib.Seq.{take-take, take-append_seam}
use Rattle.chain_lists.specs.rising.Four.{four, Filled, Added}

module _ {A : Type 0} (z v : A) where
  set-four : (l : List A) → length (take 4 l) < 4 → (length (take 4 l) + 1 ≡ length (take 4 (l ++ v ∷ []))) × (set (four z l) (length (take 4 l)) v ≡ four z (l ++ v ∷ []))
  unfolding four
  set-four [] h = (refl, refl)
  set-four (a ∷ []) h = (refl, refl)
  set-four (a ∷ b ∷ []) h = (refl, refl)
  set-four (a ∷ b ∷ c ∷ []) h = (refl, refl)
  set-four (a ∷ b ∷ c ∷ d ∷ l) h = absurd (omega arith)

  full-four : (l : List A) → 4 ≤ length (take 4 l) → (length (take 4 l) ≡ length (take 4 (l ++ v ∷ []))) × (four z l ≡ four z (l ++ v ∷ []))
  unfolding four
  full-four [] h = absurd (omega arith)
  full-four (a ∷ []) h = absurd (omega arith)
  full-four (a ∷ b ∷ []) h = absurd (omega arith)
  full-four (a ∷ b ∷ c ∷ []) h = absurd (omega arith)
  full-four (a ∷ b ∷ c ∷ d ∷ l) h = (refl, refl)

  pub filled_none : Filled z [] 0 (replicate 4 z)
  unfolding four
  filled_none = record { count = refl; items = refl }

  pub added_more : (n : ℕ) (xs : List A) → n < 4 → Added z (v ∷ []) n xs (n + 1) (set xs n v)
  added_more n xs h =
      record {
        holds =
            λ l f.
            let i : length (take 4 l) < 4 = rw f.count at h in
            let s = set-four l i in
            record { count = ap (λ (k : ℕ). k + 1) f.count ∙ s.0; items = ap₂ (λ (k : ℕ) (ys : List A). set ys k v) f.count f.items ∙ s.1 };
      }

  pub added_full : (n : ℕ) (xs : List A) → 4 ≤ n → Added z (v ∷ []) n xs n xs
  added_full n xs h =
      record {
        holds =
            λ l f.
            let i : 4 ≤ length (take 4 l) = rw f.count at h in
            let s = full-four l i in
            record { count = f.count ∙ s.0; items = f.items ∙ s.1 };
      }

module _ {A : Type 0} (z : A) where
  -- nothing more
  pub added_none : (n : ℕ) (xs : List A) → Added z [] n xs n xs
  added_none n xs = record { holds = λ l f. rw (append-nil l) f }

  -- first some, then others
  pub added_then : {n m k : ℕ} {xs ys zs : List A} (a b : List A) → Added z a n xs m ys → Added z b m ys k zs → Added z (a ++ b) n xs k zs
  added_then a b u w = record { holds = λ l f. rw (append_assoc l a b) at (w.holds (l ++ a) (u.holds l f)) }

take-four : {A : Type 0} (z : A) (l : List A) → take (length (take 4 l)) (four z l) ≡ take 4 l
unfolding four
take-four z [] = refl
take-four z (a ∷ []) = refl
take-four z (a ∷ b ∷ []) = refl
take-four z (a ∷ b ∷ c ∷ []) = refl
take-four z (a ∷ b ∷ c ∷ d ∷ l) = refl

-- what is counted is what the list starts with
pub filled-held : {A : Type 0} (z : A) (l : List A) (n : ℕ) (xs : List A) → n ≡ length (take 4 l) → xs ≡ four z l → take n xs ≡ take 4 l
filled-held z l n xs e f = ap₂ (λ (k : ℕ) (ys : List _). take k ys) e f ∙ take-four z l

-- a list of at most four is all that they hold
pub four-held : {A : Type 0} (z : A) (l : List A) → length l ≤ 4 → take (length l) (four z l) ≡ l
unfolding four
four-held z l h = take-take (length l) 4 (l ++ replicate 4 z) h ∙ take-append_seam l (replicate 4 z)
