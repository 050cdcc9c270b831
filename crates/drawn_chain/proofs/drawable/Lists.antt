-- Laws of the lists that `chain_rules::chain` defines: lengths, and pieces put together.
-- Assumes nothing.
use Prim.Native.Nat.{ℕ, zero, suc, ◌<◌, ◌≤◌, max}
use native.Mathlib.Omega.{arith}
use mathlib.Core.Path.{◌≡◌, refl, sym, ap}
use mathlib.Core.Bool.{Bool, true, false, cond, ◌&&◌, and_assoc}
use mathlib.Core.List.{List, [], ◌∷◌, ◌++◌, map}
use lib.ListN.{length, take}
use native.Mathlib.Decide.{ℕ_discrete}
use lib.Dec.{eqb}
use borrow.Author.Tests.{eq-eqb, ne_eqb}
use Rattle.chain_rules.specs.chain.Lists.{any_of, all_of, only, is_empty, largest}

pub length-only : {A : Type 0} (test : A → Bool) (l : List A) → length (only test l) ≤ length l
unfolding only
length-only test [] = omega arith
length-only {A} test (a ∷ l) = go (test a) (length-only test l)
  where
    go : (b : Bool) → length (only test l) ≤ length l → length (cond {A = List A} b (a ∷ only test l) (only test l)) ≤ suc (length l)
    go true h = omega arith
    go false h = omega arith

-- what is cut off at first is cut off in the end
pub take-front : {A : Type 0} (n : ℕ) (l m : List A) → take n (take n l ++ m) ≡ take n (l ++ m)
take-front zero l m = refl
take-front (suc n) [] m = refl
take-front {A} (suc n) (a ∷ l) m = ap {B = List A} (λ r. a ∷ r) (take-front n l m)

-- two tests that agree
pub any_same : {A : Type 0} (f g : A → Bool) (l : List A) → ((a : A) → f a ≡ g a) → any_of f l ≡ any_of g l
unfolding any_of
any_same f g [] e = refl
any_same f g (a ∷ l) e = rw (e a, any_same f g l e)

pub eqb_swap : (m n : ℕ) → eqb m n ≡ eqb n m
eqb_swap m n = go (ℕ_discrete m n)
  where
    go : Dec (m ≡ n) → eqb m n ≡ eqb n m
    go (yes e) = rw (eq-eqb m n e, eq-eqb n m (sym e))
    go (no e) = rw (ne_eqb m n e, ne_eqb n m (λ f. e (sym f)))

pub largest-append : (m : ℕ) (l k : List ℕ) → largest m (l ++ k) ≡ largest (largest m l) k
unfolding largest
largest-append m [] k = refl
largest-append m (a ∷ l) k = largest-append (max m a) l k

pub all_append : {A : Type 0} (test : A → Bool) (l k : List A) → all_of test (l ++ k) ≡ all_of test l && all_of test k
unfolding all_of
all_append test [] k = refl
all_append test (a ∷ l) k = rw (all_append test l k) (sym (and_assoc (test a) (all_of test l) (all_of test k)))

pub empty-append : {A : Type 0} (l k : List A) → is_empty (l ++ k) ≡ is_empty l && is_empty k
unfolding is_empty
empty-append [] k = refl
empty-append (a ∷ l) k = refl

pub empty-map : {A B : Type 0} (f : A → B) (l : List A) → is_empty (map f l) ≡ is_empty l
unfolding is_empty
empty-map f [] = refl
empty-map f (a ∷ l) = refl

pub empty-length : {A : Type 0} (l : List A) → eqb (length l) 0 ≡ is_empty l
unfolding is_empty
empty-length [] = refl
empty-length (a ∷ l) = ne_eqb (length (a ∷ l)) 0 (λ e. omega arith)

pub some-empty : {A : Type 0} (l : List A) → 0 < length l → is_empty l ≡ false
unfolding is_empty
some-empty [] h = absurd (omega arith)
some-empty (a ∷ l) h = refl

pub none-empty : {A : Type 0} (l : List A) → length l ≤ 0 → is_empty l ≡ true
unfolding is_empty
none-empty [] h = refl
none-empty (a ∷ l) h = absurd (omega arith)
