-- Laws of the index lists.
-- Assumes nothing.
use Prim.Native.Nat.{ℕ, zero, suc, ◌+◌, ◌-◌, ◌*◌, ◌≤◌, ◌<◌, ◌^◌, min}
use native.Mathlib.Numerals.{add-one}
use native.Mathlib.Omega.{arith}
use mathlib.Core.Path.{◌≡◌, refl, sym, ap, ap₂, ◌∙◌}
use mathlib.Core.List.{List, [], ◌∷◌, ◌++◌, append_assoc, map}
use lib.ListN.{length, take, drop, get_or, length-drop, length-take, length-map, drop_of_length-le, take-append-drop}
use lib.Seq.{take-suc, take_all, take-nil, take_at, drop_at, drop-drop}
use Rattle.writer.specs.emit.Text.{Written}
use Rattle.writer.proofs.emit.Laws.{written-nil, written-append}
use Rattle.reading_rules.proofs.reading.PartingLaws.{All}
use Rattle.template_rules.specs.Drawn as request
use Rattle.template_rules.specs.Written.{indices_of, all_indices}
use Rattle.template_rules.specs.Drawn.{by_sn}
use Rattle.placement.specs.declared.chain_notes.Placed.{Placed}
use Rattle.placement.specs.chain_notes.Fragment.{noted, gathered, summed}
use Rattle.placement.proofs.chain_notes.Laws.{gathered-append}
use Rattle.chain_lists.specs.declared.rising.Rising.{Rising}
use Rattle.chain_lists.specs.rising.Order.{picked, places_in, InOrder}
use Rattle.chain_lists.proofs.rising.OrderLaws.{take_places}
use Rattle.chain_lists.proofs.rising.Picked.{gathered-one, picked-here, picked-past}
use Rattle.chain_lists.proofs.rising.Sorted.{picked-sorted, take_counted}
use Rattle.chain_lists.specs.indices.Index.{parts_of, indices_at, Starts}

-- ---- where a part starts

-- those of the first i of some chains
pub record SumTo (l : List Placed) (i sum : ℕ) : Type 0 where
  pub is : sum ≡ summed (λ (p : Placed). p.count) (take i l)
  pub few : sum ≤ 65535 * i

summed-one : (l : List Placed) (p : Placed) → summed (λ (q : Placed). q.count) (l ++ p ∷ []) ≡ summed (λ (q : Placed). q.count) l + p.count
unfolding summed
summed-one [] p = omega arith
summed-one (q ∷ l) p = omega (arith, summed-one l p)

pub sum-none : (l : List Placed) → SumTo l 0 0
unfolding summed
sum-none l = record { is = refl; few = omega arith }

pub sum_more : (l : List Placed) (i sum : ℕ) (d : Placed) → i < length l → (get_or l i d).count < 65536 → SumTo l i sum → SumTo l (i + 1) (sum + (get_or l i d).count)
sum_more l i sum d h e s =
    record {
      is = rw (add-one i, take-suc l i d h, summed-one (take i l) (get_or l i d)) (omega (arith, s.is));
      few = omega (arith, s.few);
    }

pub sum-all : (l : List Placed) (n i sum k : ℕ) → length l ≡ 4 → n ≡ min k 4 → i ≤ length (take n l) → length (take n l) ≤ i → SumTo (take n l) i sum → Starts l k sum
sum-all l n i sum k m e g h s =
    record {
      is = s.is ∙ ap (summed (λ (p : Placed). p.count)) (take_all i (take n l) h ∙ take_places l 4 k n m e);
      few = omega (arith, s.few, length-take n l);
    }

-- ---- a part

module _ {xs ys : List ℕ} {at r : ℕ} (l : List ℕ) (from count : ℕ) where
  pub part-whole : Written xs at (take (from + count - from) (drop from l)) ys r → Written xs at (take count (drop from l)) ys r
  part-whole w =
      let e : from + count - from ≡ count = omega arith in
      rw e at w

  pub part_cut : length l < from + count → Written xs at (take (length l - from) (drop from l)) ys r → Written xs at (take count (drop from l)) ys r
  part_cut h w =
      let all : take (length l - from) (drop from l) ≡ drop from l = take_all (length l - from) (drop from l) (omega (arith, length-drop from l)) in
      let same : take count (drop from l) ≡ drop from l = take_all count (drop from l) (omega (arith, length-drop from l)) in
      rw same (rw all at w)

pub part_none : (xs l : List ℕ) (at from count : ℕ) → at < 2 ^ 64 → length l < from → Written xs at (take count (drop from l)) xs at
part_none xs l at from count g h =
    let past : length l ≤ from = omega arith in
    rw (drop_of_length-le l past, take-nil count) (written-nil xs at g)

-- ---- the parts of the chains at some places

parts-length : (ps : List Placed) (xs : List ℕ) → length (parts_of ps xs) ≡ length ps
unfolding parts_of
parts-length [] xs = refl
parts-length (p ∷ ps) xs = ap suc (parts-length ps (drop p.count xs))

part_at : (ps : List Placed) (xs : List ℕ) (k : ℕ) (d : Placed) → k < length ps → get_or (parts_of ps xs) k [] ≡ take (get_or ps k d).count (drop (summed (λ (p : Placed). p.count) (take k ps)) xs)
unfolding parts_of summed
part_at [] xs k d h = absurd (omega arith)
part_at (p ∷ ps) xs zero d h = refl
part_at (p ∷ ps) xs (suc k) d h =
    part_at ps (drop p.count xs) k d (omega arith)
    ∙ ap (take (get_or ps k d).count) (drop-drop (summed (λ (q : Placed). q.count) (take k ps)) p.count xs)

module _ (ps : List Placed) (numbers l : List ℕ) (i : ℕ) where
  pub indices-more : {xs ys zs : List ℕ} {a b : ℕ} (d : Placed) (from : ℕ) → length xs < 2 ^ 64 → length ps ≡ 4 → i < length l → get_or l i 0 < 4
      → Starts ps (get_or l i 0) from → Written xs 0 (indices_at ps numbers (take i l)) ys a → Written ys a (take (get_or ps (get_or l i 0) d).count (drop from numbers)) zs b
      → Written xs 0 (indices_at ps numbers (take (i + 1) l)) zs b
  unfolding indices_at
  indices-more d from g k h f s u w =
      let is : take (get_or ps (get_or l i 0) d).count (drop from numbers) ≡ get_or (parts_of ps numbers) (get_or l i 0) [] =
      ap (λ (z : ℕ). take (get_or ps (get_or l i 0) d).count (drop z numbers)) s.is ∙ sym (part_at ps numbers (get_or l i 0) d (omega arith)) in
      rw (picked-here (parts_of ps numbers) l i [] h (omega (arith, parts-length ps numbers)), gathered-append (λ (z : List ℕ). z) (picked (parts_of ps numbers) (take i l)) (get_or (parts_of ps numbers) (get_or l i 0) [] ∷ []), gathered-one (λ (z : List ℕ). z) (get_or (parts_of ps numbers) (get_or l i 0) []), ← is)
      (written-append g u w)

  pub indices-past : {xs ys : List ℕ} {p : ℕ} → length ps ≡ 4 → i < length l → 4 ≤ get_or l i 0 → Written xs 0 (indices_at ps numbers (take i l)) ys p
      → Written xs 0 (indices_at ps numbers (take (i + 1) l)) ys p
  unfolding indices_at
  indices-past k h f u = rw (picked-past (parts_of ps numbers) l i h (omega (arith, parts-length ps numbers))) u

-- those of all places that count
pub indices-all : {xs ys : List ℕ} {p : ℕ} (ps : List Placed) (numbers l : List ℕ) (i n count : ℕ) → length l ≡ 4 → n ≡ min count 4 → length (take n l) ≤ i
    → Written xs 0 (indices_at ps numbers (take i (take n l))) ys p → Written xs 0 (indices_at ps numbers (take count l)) ys p
indices-all ps numbers l i n count k e h u = rw (take_all i (take n l) h, take_places l 4 count n k e) at u

pub indices-none : (ps : List Placed) (numbers xs : List ℕ) → Written xs 0 (indices_at ps numbers []) xs 0
unfolding indices_at gathered picked
indices-none ps numbers xs = written-nil xs 0 (omega arith)

-- ---- the indices are those of the chains

parts-taken : (n : ℕ) (ps : List Placed) (xs : List ℕ) → take n (parts_of ps xs) ≡ parts_of (take n ps) xs
unfolding parts_of
parts-taken zero ps xs = refl
parts-taken (suc n) [] xs = refl
parts-taken (suc n) (p ∷ ps) xs = ap (λ (l : List (List ℕ)). take p.count xs ∷ l) (parts-taken n ps (drop p.count xs))

count-is : (p : request.Placed) → length (indices_of p) ≡ (noted p).count
unfolding noted
count-is p = refl

parts-gathered : (ps : List request.Placed) (rest : List ℕ) → parts_of (map noted ps) (gathered indices_of ps ++ rest) ≡ map indices_of ps
unfolding parts_of gathered
parts-gathered [] rest = refl
parts-gathered (p ∷ ps) rest =
    let a : (indices_of p ++ gathered indices_of ps) ++ rest ≡ indices_of p ++ (gathered indices_of ps ++ rest) = append_assoc (indices_of p) (gathered indices_of ps) rest in
    rw (a, take_at (indices_of p) (gathered indices_of ps ++ rest) (noted p).count (count-is p), drop_at (indices_of p) (gathered indices_of ps ++ rest) (noted p).count (count-is p))
    (ap (λ (l : List (List ℕ)). indices_of p ∷ l) (parts-gathered ps rest))

joined-indices : (ps : List request.Placed) → gathered (λ (is : List ℕ). is) (map indices_of ps) ≡ all_indices ps
unfolding gathered all_indices
joined-indices [] = refl
joined-indices (p ∷ ps) = ap (λ (l : List ℕ). indices_of p ++ l) (joined-indices ps)

-- THE INDEX LISTS of chains with sn 1 to 4, whose indices stand end to end at the start of a list
pub indices-told : (l : List Placed) (numbers : List ℕ) (count n : ℕ) (o : Rising) (ps : List request.Placed) → All (λ p. (1 ≤ p.sn) × (p.sn ≤ 4)) ps → take count l ≡ map noted ps
    → take n numbers ≡ gathered indices_of ps → InOrder (take count l) o → indices_at l numbers (places_in o) ≡ all_indices (by_sn ps)
unfolding indices_at
indices-told l numbers count n o ps h e f i =
    let many : length (take count l) ≡ length ps = ap length e ∙ length-map ps noted in
    let first : take (length ps) l ≡ map noted ps = rw (← many) (take_counted count l ∙ e) in
    let all : numbers ≡ gathered indices_of ps ++ drop n numbers = sym (take-append-drop n numbers) ∙ ap (λ (z : List ℕ). z ++ drop n numbers) f in
    let parts : take (length ps) (parts_of l numbers) ≡ map indices_of ps =
    parts-taken (length ps) l numbers ∙ (ap₂ (λ (a : List Placed) (b : List ℕ). parts_of a b) first all ∙ parts-gathered ps (drop n numbers)) in
    rw (i.held, e) (ap (gathered (λ (is : List ℕ). is)) (picked-sorted indices_of (parts_of l numbers) ps h parts) ∙ joined-indices (by_sn ps))
