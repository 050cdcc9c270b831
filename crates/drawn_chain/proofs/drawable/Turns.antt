-- Laws of a look through a list from its first element to its last: what an iterator's `any` and `all` answer, in the words of `chain_rules`; and,
-- for a `for` over a slice, one law for each way out and each turn, and one for its end. The invariant of such a loop is that the definition on
-- the whole is the definition on what is left.
-- Assumes nothing.
use Prim.Native.Nat.{ℕ, ◌+◌, ◌<◌, ◌≤◌, max}
use native.Mathlib.Numerals.{add-one}
use native.Mathlib.Omega.{arith}
use mathlib.Core.Path.{◌≡◌, refl, sym, ap, ◌∙◌}
use mathlib.Core.Bool.{Bool, true, false, ◌&&◌, ◌||◌}
use mathlib.Core.List.{List, [], ◌∷◌, map}
use lib.ListN.{length, drop, get_or, drop_of_length-le}
use lib.Seq.{drop-cons}
use Rattle.std.specs.List.{list_any, list_all}
use Rattle.chain_rules.specs.chain.Lists.{any_of, all_of, any_two, largest}

-- ---- what an iterator answers

module _ {A : Type 0} (test : A → Bool) where
  pub any_is : (l : List A) → list_any test l ≡ any_of test l
  unfolding any_of
  any_is [] = refl
  any_is (a ∷ l) = ap (λ t. test a || t) (any_is l)

  pub all_is : (l : List A) → list_all test l ≡ all_of test l
  unfolding all_of
  all_is [] = refl
  all_is (a ∷ l) = ap (λ t. test a && t) (all_is l)

pub all_map_is : {A B : Type 0} (test : B → Bool) (f : A → B) (l : List A) → list_all (λ a. test (f a)) l ≡ all_of test (map f l)
unfolding all_of
all_map_is test f [] = refl
all_map_is test f (a ∷ l) = ap (λ t. test (f a) && t) (all_map_is test f l)

-- ---- what is left of a list from place i on

pub left_here : {A : Type 0} (l : List A) (i : ℕ) (d a : A) → i < length l → a ≡ get_or l i d → drop i l ≡ a ∷ drop (i + 1) l
left_here l i d a h e = rw (add-one i, e) (drop-cons l i d h)

pub left-none : {A : Type 0} (l : List A) (i : ℕ) → length l ≤ i → drop i l ≡ []
left-none l i h = drop_of_length-le l {i = i} h

-- ---- whether two elements stand in a relation, the first of what is left held against all that follow; what was asked is v

module _ {A : Type 0} (v : Bool) (rel : A → A → Bool) {l : List A} (same : v ≡ any_two rel l) where
  pub two_here : (a : A) {k : List A} (t : Bool) → l ≡ a ∷ k → t ≡ any_of (rel a) k → t ≡ true → true ≡ v
  unfolding any_two
  two_here a t e f g = sym (same ∙ rw (e, sym f ∙ g))

  pub two_next : (a : A) {k : List A} (t : Bool) → l ≡ a ∷ k → t ≡ any_of (rel a) k → t ≡ false → v ≡ any_two rel k
  unfolding any_two
  two_next a t e f g = same ∙ rw (e, sym f ∙ g)

pub two_none : {A : Type 0} (v : Bool) (rel : A → A → Bool) (l : List A) → v ≡ any_two rel l → length l ≡ 0 → false ≡ v
unfolding any_two
two_none v rel [] same h = sym same
two_none v rel (a ∷ l) same h = absurd (omega arith)

-- ---- the largest of the elements' numbers and m

module _ {A : Type 0} (v : ℕ) (f : A → ℕ) (l : List A) (i m : ℕ) (same : v ≡ largest m (map f (drop i l))) where
  pub reach_next : (d : A) (k : ℕ) → i < length l → k ≡ max m (f (get_or l i d)) → v ≡ largest k (map f (drop (i + 1) l))
  unfolding largest
  reach_next d k h g = same ∙ rw (left_here l i d (get_or l i d) h refl, g)

  pub reach_end : length l ≤ i → m ≡ v
  unfolding largest
  reach_end h = sym (same ∙ rw (left-none l i h))
