-- Laws of an array with a count: one element more, and one that is cut where its room ends.
-- Assumes nothing.
use Prim.Native.Nat.{ℕ, zero, suc, ◌+◌, ◌<◌, ◌≤◌}
use native.Mathlib.Numerals.{add-one}
use native.Mathlib.Omega.{arith}
use mathlib.Core.Path.{◌≡◌, refl, sym, ap, ◌∙◌}
use mathlib.Core.List.{List, [], ◌∷◌, ◌++◌}
use lib.ListN.{length, take, set, length-append, length-take}
use lib.Seq.{take-suc-set, take_all, take-append-le}

module _ {A : Type 0} (xs : List A) (count room : ℕ) (l : length xs ≡ room) where
  pub held_more : (v : A) → count < room → take (count + 1) (set xs count v) ≡ take room (take count xs ++ (v ∷ []))
  held_more v h =
      rw (add-one count) (take-suc-set xs count v (omega arith))
      ∙ sym (take_all room (take count xs ++ (v ∷ [])) (omega (arith, length-append (take count xs) (v ∷ []), length-take count xs)))

  pub held-full : (v : A) → room ≤ count → take count xs ≡ take room (take count xs ++ (v ∷ []))
  held-full v h = rw (take_all count xs (omega arith)) (sym (take-append-le room xs (v ∷ []) (omega arith) ∙ take_all room xs (omega arith)))

-- two cuts, in either order
take_twice : {A : Type 0} (n m : ℕ) (xs : List A) → take n (take m xs) ≡ take m (take n xs)
take_twice zero zero xs = refl
take_twice zero (suc m) xs = refl
take_twice (suc n) zero xs = refl
take_twice (suc n) (suc m) [] = refl
take_twice {A} (suc n) (suc m) (x ∷ xs) = ap {B = List A} (λ l. x ∷ l) (take_twice n m xs)

-- what is counted, if it has room, stands before the cut
pub held_cut : {A : Type 0} (n room : ℕ) (xs : List A) → length (take n xs) ≤ room → take n (take room xs) ≡ take n xs
held_cut n room xs h = take_twice n room xs ∙ take_all room (take n xs) h
