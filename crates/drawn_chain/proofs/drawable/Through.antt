-- Laws of a loop that looks through a list, place by place: what is left of the list from place i on, and one law for each way out and each
-- turn. The invariant of such a loop is that the definition on the whole is the definition on what is left.
-- Assumes nothing.
use Prim.Native.Nat.{ℕ, ◌+◌, ◌<◌, ◌≤◌}
use native.Mathlib.Numerals.{add-one}
use native.Mathlib.Omega.{arith}
use mathlib.Core.Path.{◌≡◌, refl, sym, ◌∙◌}
use mathlib.Core.Bool.{Bool, true, false}
use mathlib.Core.List.{List, [], ◌∷◌, ◌++◌, append_assoc, append-nil}
use lib.ListN.{length, drop, get_or, drop_of_length-le}
use lib.Seq.{drop-cons}
use Rattle.chain_rules.specs.chain.Lists.{only}
use Rattle.drawn_chain.specs.drawable.Drawn.{Length}

-- a list is as long as it is
pub listed : {A : Type 0} (l : List A) → Length (length l) l (length l)
listed l = record { is = refl; fits = omega arith }

-- the element at i stands first in what is left
left_here : {A : Type 0} (room : ℕ) (l : List A) (n i : ℕ) (d a : A) → Length room l n → i < n → a ≡ get_or l i d → drop i l ≡ a ∷ drop (i + 1) l
left_here room l n i d a w h e = rw (add-one i, e) (drop-cons l i d (omega (arith, w.is)))

left-none : {A : Type 0} (room : ℕ) (l : List A) (n i : ℕ) → Length room l n → n ≤ i → drop i l ≡ []
left-none room l n i w h = drop_of_length-le l {i = i} (omega (arith, w.is))

-- ---- the elements that pass a test, those found so far being k

module _ {A : Type 0} (test : A → Bool) (room : ℕ) (l : List A) (n i : ℕ) (d a : A) (k : List A) (w : Length room l n)
    (v : k ++ only test (drop i l) ≡ only test l) (h : i < n) (e : a ≡ get_or l i d) where
  pub only-skip : test a ≡ false → k ++ only test (drop (i + 1) l) ≡ only test l
  unfolding only
  only-skip f = rw (left_here room l n i d a w h e, f) at v

  pub only-keep : (k' : List A) → test a ≡ true → k' ≡ k ++ (a ∷ []) → k' ++ only test (drop (i + 1) l) ≡ only test l
  unfolding only
  only-keep k' f g = rw (g, append_assoc) (rw (left_here room l n i d a w h e, f) at v)

pub only-all : {A : Type 0} (test : A → Bool) (room : ℕ) (l : List A) (n i : ℕ) (k : List A) → Length room l n → k ++ only test (drop i l) ≡ only test l → n ≤ i
    → k ≡ only test l
unfolding only
only-all test room l n i k w v h = sym (append-nil k) ∙ rw (left-none room l n i w h) at v
