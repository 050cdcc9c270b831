-- Laws of the places by rising sn.
-- Assumes nothing.
use Prim.Native.Nat.{ℕ, zero, suc, ◌+◌, ◌≤◌, ◌<◌, min}
use native.Mathlib.Nat.{add-zero, add-suc, suc-add, zero-add}
use native.Mathlib.Numerals.{add-one}
use native.Mathlib.Omega.{arith}
use native.Mathlib.Decide.{dec_le}
use mathlib.Core.Path.{◌≡◌, refl, sym, ap, ◌∙◌}
use mathlib.Core.Bool.{Bool, true, false, cond}
use mathlib.Core.List.{List, [], ◌∷◌, ◌++◌, append-nil, map-append}
use lib.Dec.{eqb}
use lib.ListN.{length, take, get_or, length-append, length-take, length-map}
use lib.Seq.{take-suc, take_all, length-take-le}
use borrow.Author.Tests.{eq-eqb, ne_eqb}
use Rattle.placement.specs.declared.chain_notes.Placed.{Placed}
use Rattle.chain_lists.specs.declared.rising.Rising.{Rising}
use Rattle.chain_lists.specs.rising.Four.{Filled, Added}
use Rattle.chain_lists.specs.rising.Order.{sns_of, places_of, places_from, InOrder}
use Rattle.chain_lists.proofs.rising.FourLaws.{added_none, added_then, filled-held}

-- what counts of an array
pub take_places : {A : Type 0} (l : List A) (room count n : ℕ) → length l ≡ room → n ≡ min count room → take n l ≡ take count l
take_places l room count n k e = go (dec_le count room)
  where
    go : Dec (count ≤ room) → take n l ≡ take count l
    go (yes h) = let z : n ≡ count = omega arith in rw z
    go (no h) = take_all n l (omega arith) ∙ sym (take_all count l (omega arith))

-- ---- those of an sn, one more at a time

of-append : (sn i : ℕ) (a b : List ℕ) → places_of sn i (a ++ b) ≡ places_of sn i a ++ places_of sn (i + length a) b
unfolding places_of
of-append sn i [] b = rw (add-zero i)
of-append sn i (n ∷ a) b = go (eqb n sn) (rw (add-suc i (length a), ← suc-add i (length a)) (of-append sn (suc i) a b))
  where
    go : (t : Bool) → places_of sn (suc i) (a ++ b) ≡ places_of sn (suc i) a ++ places_of sn (i + suc (length a)) b
        → cond t (i ∷ places_of sn (suc i) (a ++ b)) (places_of sn (suc i) (a ++ b)) ≡ cond t (i ∷ places_of sn (suc i) a) (places_of sn (suc i) a) ++ places_of sn (i + suc (length a)) b
    go true e = ap (λ (l : List ℕ). i ∷ l) e
    go false e = e

of-own : (sn i n : ℕ) → n ≡ sn → places_of sn i (n ∷ []) ≡ i ∷ []
unfolding places_of
of-own sn i n e = rw (eq-eqb n sn e)

of_other : (sn i n : ℕ) → (n ≡ sn → ⊥) → places_of sn i (n ∷ []) ≡ []
unfolding places_of
of_other sn i n e = rw (ne_eqb n sn e)

pub sns-length : (l : List Placed) → length (sns_of l) ≡ length l
unfolding sns_of
sns-length l = length-map l (λ (p : Placed). p.sn)

pub sn-none : (sn n : ℕ) (xs : List ℕ) → Added 0 (places_of sn 0 []) n xs n xs
unfolding places_of
sn-none sn n xs = added_none 0 n xs

module _ (sn : ℕ) (l : List Placed) (i a b : ℕ) (xs ys : List ℕ) where
  sns-next : (d : Placed) → i < length l → places_of sn 0 (sns_of (take (i + 1) l)) ≡ places_of sn 0 (sns_of (take i l)) ++ places_of sn i ((get_or l i d).sn ∷ [])
  unfolding sns_of
  sns-next d h =
      rw (add-one i, take-suc l i d h, map-append (λ (p : Placed). p.sn) (take i l) (get_or l i d ∷ []), of-append sn 0 (sns_of (take i l)) ((get_or l i d).sn ∷ []), zero-add (length (sns_of (take i l))), sns-length (take i l), length-take-le i l (omega arith)) refl

  pub sn-here : (d : Placed) (c : ℕ) (zs : List ℕ) → i < length l → (get_or l i d).sn ≡ sn → Added 0 (places_of sn 0 (sns_of (take i l))) a xs b ys → Added 0 (i ∷ []) b ys c zs
      → Added 0 (places_of sn 0 (sns_of (take (i + 1) l))) a xs c zs
  sn-here d c zs h q u w = rw (sns-next d h, of-own sn i (get_or l i d).sn q) (added_then 0 (places_of sn 0 (sns_of (take i l))) (i ∷ []) u w)

  pub sn-other : (d : Placed) → i < length l → ((get_or l i d).sn ≡ sn → ⊥) → Added 0 (places_of sn 0 (sns_of (take i l))) a xs b ys → Added 0 (places_of sn 0 (sns_of (take (i + 1) l))) a xs b ys
  sn-other d h q u = rw (sns-next d h, of_other sn i (get_or l i d).sn q, append-nil (places_of sn 0 (sns_of (take i l)))) u

  pub sn-all : length l ≤ i → Added 0 (places_of sn 0 (sns_of (take i l))) a xs b ys → Added 0 (places_of sn 0 (sns_of l)) a xs b ys
  sn-all h u = rw (take_all i l h) at u

-- ---- no chain is there twice

few-of : (i : ℕ) (ns : List ℕ) → length (places_of 1 i ns) + length (places_of 2 i ns) + length (places_of 3 i ns) + length (places_of 4 i ns) ≤ length ns
unfolding places_of
few-of i [] = omega arith
few-of i (zero ∷ ns) = omega (arith, few-of (suc i) ns)
few-of i (suc zero ∷ ns) = omega (arith, few-of (suc i) ns)
few-of i (suc (suc zero) ∷ ns) = omega (arith, few-of (suc i) ns)
few-of i (suc (suc (suc zero)) ∷ ns) = omega (arith, few-of (suc i) ns)
few-of i (suc (suc (suc (suc zero))) ∷ ns) = omega (arith, few-of (suc i) ns)
few-of i (suc (suc (suc (suc (suc n)))) ∷ ns) =
    let m : ℕ = suc (suc (suc (suc (suc n)))) in
    rw (ne_eqb m 1 (λ e. omega arith), ne_eqb m 2 (λ e. omega arith), ne_eqb m 3 (λ e. omega arith), ne_eqb m 4 (λ e. omega arith)) (omega (arith, few-of (suc i) ns))

four-sns : (ns : List ℕ) → places_from 1 4 ns ≡ places_of 1 0 ns ++ (places_of 2 0 ns ++ (places_of 3 0 ns ++ places_of 4 0 ns))
unfolding places_from
four-sns ns = rw (append-nil (places_of 4 0 ns)) refl

pub from-few : (ns : List ℕ) → length (places_from 1 4 ns) ≤ length ns
from-few ns =
    rw (four-sns ns, length-append, length-append, length-append)
    (omega (arith, few-of 0 ns))

-- ---- all of them

pub places-are : (l : List Placed) (os xs ys zs rs : List ℕ) (a b c d : ℕ) → length l ≤ 4 → Filled 0 [] 0 os → Added 0 (places_of 1 0 (sns_of l)) 0 os a xs
    → Added 0 (places_of 2 0 (sns_of l)) a xs b ys → Added 0 (places_of 3 0 (sns_of l)) b ys c zs → Added 0 (places_of 4 0 (sns_of l)) c zs d rs → InOrder l (record { count = d; items = rs })
places-are l os xs ys zs rs a b c d h none s1 s2 s3 s4 =
    let ns : List ℕ = sns_of l in
    let s = added_then 0 (places_of 1 0 ns) (places_of 2 0 ns ++ (places_of 3 0 ns ++ places_of 4 0 ns)) s1 (added_then 0 (places_of 2 0 ns) (places_of 3 0 ns ++ places_of 4 0 ns) s2 (added_then 0 (places_of 3 0 ns) (places_of 4 0 ns) s3 s4)) in
    let f : Filled 0 (places_from 1 4 ns) d rs = rw (four-sns ns) (s.holds [] none) in
    let few : length (places_from 1 4 ns) ≤ 4 = omega (arith, from-few ns, sns-length l) in
    record {
      room = omega (arith, f.count, length-take 4 (places_from 1 4 ns));
      held = filled-held 0 (places_from 1 4 ns) d rs f.count f.items ∙ take_all 4 (places_from 1 4 ns) few;
    }

pub in-places : (l : List Placed) (count n : ℕ) (r : Rising) → length l ≡ 4 → n ≡ min count 4 → InOrder (take n l) r → InOrder (take count l) r
in-places l count n r k e o = rw (take_places l 4 count n k e) at o
