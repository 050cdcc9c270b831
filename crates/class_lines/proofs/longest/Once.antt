-- What is met once by numbers that follow one another. Assumes nothing.
use Prim.Native.Nat.{ℕ, suc, ◌+◌, ◌≤◌}
use native.Mathlib.Omega.{arith}
use mathlib.Core.Path.{◌≡◌, refl, sym}
use mathlib.Core.Bool.{Bool, true, false, cond}
use lib.Dec.{eqb, leb}
use borrow.Author.Tests.{leb-true, leb-false, eqb-true}

-- one where a test holds
abbrev pub one : Bool → ℕ
one b = cond b 1 0

pub one-most : (b : Bool) → one b ≤ 1
one-most true = omega arith
one-most false = omega arith

-- a number that is met at k is met by none of those after k
module _ (s k : ℕ) where
  met : (a : Bool) → (a ≡ true → s ≡ k) → one a + one (leb (suc k) s) ≤ one (leb k s)
  met a h = go a h (leb (suc k) s) refl (leb k s) refl
    where
      go : (a : Bool) → (a ≡ true → s ≡ k) → (b : Bool) → leb (suc k) s ≡ b → (c : Bool) → leb k s ≡ c → one a + one b ≤ one c
      go true h true f c g = absurd (omega (arith, h refl, leb-true (suc k) s f))
      go true h false f false g = absurd (omega (arith, h refl, leb-false k s g))
      go false h true f false g = absurd (omega (arith, leb-true (suc k) s f, leb-false k s g))
      go true h false f true g = omega arith
      go false h b f true g = omega (arith, one-most b)
      go false h false f false g = omega arith

  pub once : one (eqb s k) + one (leb (suc k) s) ≤ one (leb k s)
  once = met (eqb s k) (eqb-true s k)

  pub once-here : one (eqb k s) + one (leb (suc k) s) ≤ one (leb k s)
  once-here = met (eqb k s) (λ e. sym (eqb-true k s e))
