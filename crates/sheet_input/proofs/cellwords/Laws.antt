-- Laws of the swap cell and the token cells: one for each way out.
-- Assumes nothing.
use Prim.Native.Nat.{ℕ, zero, suc, ◌≤◌}
use native.Mathlib.Omega.{arith}
use mathlib.Core.Path.{◌≡◌, refl, sym, ◌∙◌}
use mathlib.Core.Bool.{cond}
use mathlib.Core.List.{List, [], ◌∷◌}
use lib.ListN.{length, get_or}
use lib.Dec.{eqb}
use borrow.Author.Tests.{eq-eqb, ne_eqb}
use Rattle.sheet_input.specs.declared.cellwords.Swap.TheVariants.{No, Yes, Other}
use Rattle.sheet_input.specs.cellwords.Words.{swap_of, last_after, last_nonblank}

-- ---- swap

pub swap-blank : (s : List ℕ) → length s ≡ 0 → No ≡ swap_of s
unfolding swap_of
swap-blank [] e = refl
swap-blank (a ∷ s) e = absurd (omega arith)

pub swap-long : (s : List ℕ) → (length s ≡ 0 → ⊥) → (length s ≡ 1 → ⊥) → Other ≡ swap_of s
unfolding swap_of
swap-long [] e n = absurd (e refl)
swap-long (a ∷ []) e n = absurd (n refl)
swap-long (a ∷ b ∷ s) e n = refl

module _ (s : List ℕ) (e : length s ≡ 1) where
  swap-one : swap_of s ≡ cond (eqb (get_or s 0 0) 48) No (cond (eqb (get_or s 0 0) 49) Yes Other)
  unfolding swap_of
  swap-one = go s e
    where
      go : (s : List ℕ) → length s ≡ 1 → swap_of s ≡ cond (eqb (get_or s 0 0) 48) No (cond (eqb (get_or s 0 0) 49) Yes Other)
      go [] e = absurd (omega arith)
      go (a ∷ []) e = refl
      go (a ∷ b ∷ s) e = absurd (omega arith)

  pub swap-no : get_or s 0 0 ≡ 48 → No ≡ swap_of s
  swap-no h = sym (swap-one ∙ rw (eq-eqb _ 48 h))

  pub swap-yes : (get_or s 0 0 ≡ 48 → ⊥) → get_or s 0 0 ≡ 49 → Yes ≡ swap_of s
  swap-yes n h = sym (swap-one ∙ rw (ne_eqb _ 48 n, eq-eqb _ 49 h))

  pub swap-other : (get_or s 0 0 ≡ 48 → ⊥) → (get_or s 0 0 ≡ 49 → ⊥) → Other ≡ swap_of s
  swap-other n m = sym (swap-one ∙ rw (ne_eqb _ 48 n, ne_eqb _ 49 m))

-- ---- tokens

last-blank : (k n : ℕ) → k ≡ 0 → n ≡ 0 → last_after k n ≡ 0
last-blank k n e h = rw (e, h)

last_some : (k n : ℕ) → (k ≡ 0 → ⊥) → last_after k n ≡ suc n
last_some zero n h = absurd (h refl)
last_some (suc k) n h = refl

last-later : (k n : ℕ) → last_after k (suc n) ≡ suc (suc n)
last-later zero n = refl
last-later (suc k) n = refl

module _ (a b c d : List ℕ) where
  pub four-tokens : (length d ≡ 0 → ⊥) → 4 ≡ last_nonblank (a ∷ b ∷ c ∷ d ∷ [])
  unfolding last_nonblank
  four-tokens h = rw (last_some (length d) 0 h, last-later (length c) 0, last-later (length b) 1, last-later (length a) 2)

  module _ (i : length d ≡ 0) where
    pub three-tokens : (length c ≡ 0 → ⊥) → 3 ≡ last_nonblank (a ∷ b ∷ c ∷ d ∷ [])
    unfolding last_nonblank
    three-tokens h = rw (last-blank (length d) 0 i refl, last_some (length c) 0 h, last-later (length b) 0, last-later (length a) 1)

    module _ (j : length c ≡ 0) where
      pub two-tokens : (length b ≡ 0 → ⊥) → 2 ≡ last_nonblank (a ∷ b ∷ c ∷ d ∷ [])
      unfolding last_nonblank
      two-tokens h = rw (last-blank (length d) 0 i refl, last-blank (length c) 0 j refl, last_some (length b) 0 h, last-later (length a) 0)

      module _ (k : length b ≡ 0) where
        pub one_token : (length a ≡ 0 → ⊥) → 1 ≡ last_nonblank (a ∷ b ∷ c ∷ d ∷ [])
        unfolding last_nonblank
        one_token h = rw (last-blank (length d) 0 i refl, last-blank (length c) 0 j refl, last-blank (length b) 0 k refl, last_some (length a) 0 h)

        pub no-token : length a ≡ 0 → 0 ≡ last_nonblank (a ∷ b ∷ c ∷ d ∷ [])
        unfolding last_nonblank
        no-token h = rw (last-blank (length d) 0 i refl, last-blank (length c) 0 j refl, last-blank (length b) 0 k refl, last-blank (length a) 0 h refl)

pub last_within : (cells : List (List ℕ)) → last_nonblank cells ≤ length cells
unfolding last_nonblank
last_within [] = omega arith
last_within (cell ∷ cells) = go (length cell) (last_nonblank cells) (last_within cells)
  where
    go : (k n : ℕ) → n ≤ length cells → last_after k n ≤ suc (length cells)
    go zero zero h = omega arith
    go zero (suc n) h = omega arith
    go (suc k) n h = omega arith
