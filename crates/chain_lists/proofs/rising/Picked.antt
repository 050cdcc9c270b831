-- Laws of what a list has at some places.
-- Assumes nothing.
use Prim.Native.Nat.{ℕ, zero, suc, ◌+◌, ◌≤◌, ◌<◌}
use native.Mathlib.Omega.{arith}
use mathlib.Core.Path.{◌≡◌, refl, sym, ap, ap₂, ◌∙◌}
use mathlib.Core.Bool.{Bool, true, false, cond}
use mathlib.Core.List.{List, [], ◌∷◌, ◌++◌, append-nil, map, map-append}
use lib.Dec.{eqb}
use lib.ListN.{length, take, drop, get_or, length-append, length-take, drop_of_length-le}
use lib.Seq.{drop-cons}
use Rattle.reading_rules.proofs.reading.PartingLaws.{All}
use Rattle.chain_rules.specs.chain.Lists.{only}
use Rattle.chain_rules.proofs.chain.Lists.{all_append}
use Rattle.placement.specs.chain_notes.Fragment.{gathered}
use Rattle.placement.proofs.chain_notes.Laws.{gathered-append, gathered-more}
use Rattle.chain_lists.specs.rising.Order.{places_of, places_from, picked}

-- of one element
pub gathered-one : {A B : Type 0} (f : A → List B) (x : A) → gathered f (x ∷ []) ≡ f x
unfolding gathered
gathered-one f x = append-nil (f x)

module _ {A : Type 0} where
  pub picked-append : (l : List A) (a b : List ℕ) → picked l (a ++ b) ≡ picked l a ++ picked l b
  unfolding picked
  picked-append l a b = gathered-append (λ k. take 1 (drop k l)) a b

  pub picked_none : (l : List A) → picked l [] ≡ []
  unfolding picked gathered
  picked_none l = refl

  pub picked-map : {B : Type 0} (f : A → B) (l : List A) (ks : List ℕ) → picked (map f l) ks ≡ map f (picked l ks)
  unfolding picked gathered
  picked-map f l [] = refl
  picked-map f l (k ∷ ks) = ap₂ (λ a b. a ++ b) (one k l) (picked-map f l ks) ∙ sym (map-append f (take 1 (drop k l)) (picked l ks))
    where
      one : (k : ℕ) (l : List A) → take 1 (drop k (map f l)) ≡ map f (take 1 (drop k l))
      one zero [] = refl
      one zero (x ∷ l) = refl
      one (suc k) [] = refl
      one (suc k) (x ∷ l) = one k l

  -- what stands past a count is not picked by places below it
  pub picked-take : (n : ℕ) (l : List A) (ks : List ℕ) → All (λ k. k < n) ks → picked (take n l) ks ≡ picked l ks
  unfolding picked gathered
  picked-take n l [] h = refl
  picked-take n l (k ∷ ks) h = ap₂ (λ a b. a ++ b) (one n k l h.0) (picked-take n l ks h.1)
    where
      one : (n k : ℕ) (l : List A) → k < n → take 1 (drop k (take n l)) ≡ take 1 (drop k l)
      one zero k l h = absurd (omega arith)
      one (suc n) zero [] h = refl
      one (suc n) zero (x ∷ l) h = refl
      one (suc n) (suc k) [] h = refl
      one (suc n) (suc k) (x ∷ l) h = one n k l (omega arith)

  -- one place more
  pub picked-here : (l : List A) (ks : List ℕ) (i : ℕ) (d : A) → i < length ks → get_or ks i 0 < length l → picked l (take (i + 1) ks) ≡ picked l (take i ks) ++ (get_or l (get_or ks i 0) d ∷ [])
  unfolding picked
  picked-here l ks i d h g = rw (gathered-more (λ (k : ℕ). take 1 (drop k l)) ks i 0 h, drop-cons l (get_or ks i 0) d g) refl

  pub picked-past : (l : List A) (ks : List ℕ) (i : ℕ) → i < length ks → length l ≤ get_or ks i 0 → picked l (take (i + 1) ks) ≡ picked l (take i ks)
  unfolding picked
  picked-past l ks i h g = rw (gathered-more (λ (k : ℕ). take 1 (drop k l)) ks i 0 h, drop_of_length-le l g) (append-nil (gathered (λ (k : ℕ). take 1 (drop k l)) (take i ks)))

  pub picked-few : (l : List A) (ks : List ℕ) → length (picked l ks) ≤ length ks
  unfolding picked gathered
  picked-few l [] = omega arith
  picked-few l (k ∷ ks) = omega (arith, length-append (take 1 (drop k l)) (picked l ks), length-take 1 (drop k l), picked-few l ks)

  picked-behind : (sn i : ℕ) (ns : List ℕ) (x : A) (l : List A) → picked (x ∷ l) (places_of sn (suc i) ns) ≡ picked l (places_of sn i ns)
  unfolding picked gathered places_of
  picked-behind sn i [] x l = refl
  picked-behind sn i (n ∷ ns) x l = go (eqb n sn) (picked-behind sn (suc i) ns x l)
    where
      go : (b : Bool) → picked (x ∷ l) (places_of sn (suc (suc i)) ns) ≡ picked l (places_of sn (suc i) ns)
          → picked (x ∷ l) (cond b (suc i ∷ places_of sn (suc (suc i)) ns) (places_of sn (suc (suc i)) ns)) ≡ picked l (cond b (i ∷ places_of sn (suc i) ns) (places_of sn (suc i) ns))
      go true e = ap (λ (r : List A). take 1 (drop i l) ++ r) e
      go false e = e

  -- what stands at the places of an sn has that sn
  pub picked_of : (f : A → ℕ) (k : ℕ) (l : List A) → picked l (places_of k 0 (map f l)) ≡ only (λ x. eqb (f x) k) l
  unfolding picked gathered places_of only
  picked_of f k [] = refl
  picked_of f k (x ∷ l) = go (eqb (f x) k) (picked-behind k 0 (map f l) x l ∙ picked_of f k l)
    where
      go : (b : Bool) → picked (x ∷ l) (places_of k 1 (map f l)) ≡ only (λ y. eqb (f y) k) l
          → picked (x ∷ l) (cond b (0 ∷ places_of k 1 (map f l)) (places_of k 1 (map f l))) ≡ cond b (x ∷ only (λ y. eqb (f y) k) l) (only (λ y. eqb (f y) k) l)
      go true e = ap (λ (r : List A). x ∷ r) e
      go false e = e

-- ---- each place is that of a chain

of-within : (sn i n : ℕ) (ns : List ℕ) → i + length ns ≤ n → All (λ k. k < n) (places_of sn i ns)
unfolding places_of
of-within sn i n [] h = tt
of-within sn i n (m ∷ ns) h = go (eqb m sn) (of-within sn (suc i) n ns (omega arith))
  where
    go : (b : Bool) → All (λ k. k < n) (places_of sn (suc i) ns) → All (λ k. k < n) (cond b (i ∷ places_of sn (suc i) ns) (places_of sn (suc i) ns))
    go true r = (omega arith, r)
    go false r = r

pub from-within : (n m k : ℕ) (ns : List ℕ) → length ns ≤ n → All (λ j. j < n) (places_from k m ns)
unfolding places_from
from-within n zero k ns h = tt
from-within n (suc m) k ns h = all_append (λ j. j < n) (places_of k 0 ns) (places_from (suc k) m ns) (of-within k 0 n ns (omega arith)) (from-within n m (suc k) ns h)
