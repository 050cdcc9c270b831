-- Chains whose sns fall: by rising sn the last goes first.
-- Assumes nothing.
use Prim.Native.Nat.{ℕ, zero, suc, ◌+◌, ◌≤◌, ◌<◌, min}
use native.Mathlib.Numerals.{add-one}
use native.Mathlib.Omega.{arith}
use native.Mathlib.Decide.{dec_le}
use mathlib.Core.Path.{◌≡◌, refl, sym, ap, ◌∙◌}
use mathlib.Core.Bool.{Bool, true, false, false≢true}
use mathlib.Core.List.{List, [], ◌∷◌, ◌++◌, append-nil, append_assoc, map-append}
use lib.ListN.{length, take, get_or, length-take}
use lib.Seq.{take-suc, take_all}
use borrow.Author.Tests.{eq-eqb, ne_eqb}
use Rattle.placement.specs.declared.chain_notes.Placed.{Placed}
use Rattle.chain_lists.specs.declared.rising.Rising.{Rising}
use Rattle.chain_lists.specs.rising.Order.{sns_of, places_of, places_from, Falling, Falls, from_last, InOrder}
use Rattle.chain_lists.proofs.rising.OrderLaws.{sns-length, in-places}

-- ---- the places of numbers that fall

-- those of m sns from k on, where the first stands at place i
places_at : ℕ → ℕ → ℕ → List ℕ → List ℕ
unfolding places_of
places_at i k zero ns = []
places_at i k (suc m) ns = places_of k i ns ++ places_at i (suc k) m ns

from_at : (k m : ℕ) (ns : List ℕ) → places_from k m ns ≡ places_at 0 k m ns
unfolding places_from places_at
from_at k zero ns = refl
from_at k (suc m) ns = ap (λ (l : List ℕ). places_of k 0 ns ++ l) (from_at (suc k) m ns)

-- n places from i on, the last first
down_to : ℕ → ℕ → List ℕ
down_to i zero = []
down_to i (suc n) = down_to (suc i) n ++ (i ∷ [])

of_none : (m k i : ℕ) (ns : List ℕ) → Falling m ns → m ≤ k → places_of k i ns ≡ []
unfolding places_of Falling
of_none m k i [] f h = refl
of_none m k i (n ∷ ns) f h = rw (ne_eqb n k (λ e. omega (arith, f.0, e))) (of_none n k (suc i) ns f.2 (omega (arith, f.0)))

at_none : (m k i j : ℕ) (ns : List ℕ) → Falling m ns → m ≤ k → places_at i k j ns ≡ []
unfolding places_at
at_none m k i zero ns f h = refl
at_none m k i (suc j) ns f h = rw (of_none m k i ns f h) (at_none m (suc k) i j ns f (omega arith))

past-none : (n k i j : ℕ) (ns : List ℕ) → Falling n ns → n < k → places_at i k j (n ∷ ns) ≡ []
unfolding places_at places_of
past-none n k i zero ns f h = refl
past-none n k i (suc j) ns f h =
    rw (ne_eqb n k (λ e. omega (arith, h, e)), of_none n k (suc i) ns f (omega arith)) (past-none n (suc k) i j ns f (omega arith))

of-first : (k i n : ℕ) (ns : List ℕ) → n ≡ k → places_of k i (n ∷ ns) ≡ i ∷ places_of k (suc i) ns
unfolding places_of
of-first k i n ns e = rw (eq-eqb n k e)

of-later : (k i n : ℕ) (ns : List ℕ) → (n ≡ k → ⊥) → places_of k i (n ∷ ns) ≡ places_of k (suc i) ns
unfolding places_of
of-later k i n ns e = rw (ne_eqb n k e)

higher : (m k : ℕ) (ns : List ℕ) → Falling m ns → m ≤ k → Falling k ns
unfolding Falling
higher m k [] f h = tt
higher m k (n ∷ ns) f h = (omega (arith, f.0), f.1, f.2)

-- the largest number stands first and so goes last
at_first : (m k i n : ℕ) (ns : List ℕ) → Falling n ns → k ≤ n → n < k + m → places_at i k m (n ∷ ns) ≡ places_at (suc i) k m ns ++ (i ∷ [])
unfolding places_at
at_first zero k i n ns f h g = absurd (omega arith)
at_first (suc m) k i n ns f h g = go (dec_le n k) (λ l. at_first m (suc k) i n ns f l (omega arith))
  where
    go : Dec (n ≤ k) → (k < n → places_at i (suc k) m (n ∷ ns) ≡ places_at (suc i) (suc k) m ns ++ (i ∷ []))
        → places_of k i (n ∷ ns) ++ places_at i (suc k) m (n ∷ ns) ≡ (places_of k (suc i) ns ++ places_at (suc i) (suc k) m ns) ++ (i ∷ [])
    go (yes l) r =
        let own : n ≡ k = omega arith in
        rw (of-first k i n ns own, of_none n k (suc i) ns f (omega arith), at_none n (suc k) (suc i) m ns f (omega arith), past-none n (suc k) i m ns f (omega arith)) refl
    go (no l) r =
        rw (of-later k i n ns (λ e. l (omega arith)), r (omega arith)) (sym (append_assoc (places_of k (suc i) ns) (places_at (suc i) (suc k) m ns) (i ∷ [])))

falling-at : (m i : ℕ) (ns : List ℕ) → Falling (suc m) ns → places_at i 1 m ns ≡ down_to i (length ns)
unfolding Falling down_to
falling-at m i [] f = at_none 1 1 i m [] tt (omega arith)
falling-at m i (n ∷ ns) f =
    at_first m 1 i n ns f.2 f.1 (omega (arith, f.0)) ∙ ap (λ (l : List ℕ). l ++ (i ∷ [])) (falling-at m (suc i) ns (higher n (suc m) ns f.2 (omega (arith, f.0))))

-- ---- one more at a time

-- what falls from below m on still falls behind these chains
abbrev pub FallsOn : List Placed → ℕ → Type 0
FallsOn ps m = (ns : List ℕ) → Falling m ns → Falling 5 (sns_of ps ++ ns)

pub falls-first : FallsOn [] 5
unfolding sns_of
falls-first ns f = f

pub falls-more : (l : List Placed) (i m : ℕ) (d : Placed) → i < length l → (get_or l i d).sn < m → 1 ≤ (get_or l i d).sn → FallsOn (take i l) m
    → FallsOn (take (i + 1) l) (get_or l i d).sn
unfolding sns_of Falling
falls-more l i m d h up some f ns g =
    rw (add-one i, take-suc l i d h, map-append (λ (p : Placed). p.sn) (take i l) (get_or l i d ∷ []), append_assoc (sns_of (take i l)) ((get_or l i d).sn ∷ []) ns)
    (f ((get_or l i d).sn ∷ ns) (up, some, g))

pub falls-not : (ps : List Placed) → Falls ps false
falls-not ps = record { told = λ e. absurd (false≢true e) }

pub falls-all : (l : List Placed) (i m : ℕ) → length l ≤ i → FallsOn (take i l) m → Falls l true
unfolding Falling
falls-all l i m h f =
    record { told = λ t. rw (take_all i l h, append-nil (sns_of l)) at (f [] tt) }

-- ---- in an array

down-items : (n : ℕ) → n ≤ 4 → take n (from_last n).items ≡ down_to 0 n
unfolding down_to
down-items zero h = refl
down-items (suc zero) h = refl
down-items (suc (suc zero)) h = refl
down-items (suc (suc (suc zero))) h = refl
down-items (suc (suc (suc (suc zero)))) h = refl
down-items (suc (suc (suc (suc (suc n))))) h = absurd (omega arith)

pub falling-held : (l : List Placed) (count n : ℕ) (t : Bool) (r : Rising) → length l ≡ 4 → n ≡ min count 4 → t ≡ true → Falls (take n l) t → r ≡ from_last n
    → InOrder (take count l) r
falling-held l count n t r k e y f er =
    let ns : List ℕ = sns_of (take n l) in
    let many : length ns ≡ n = omega (arith, sns-length (take n l), length-take n l) in
    let is : places_from 1 4 ns ≡ down_to 0 n = from_at 1 4 ns ∙ (falling-at 4 0 ns (f.told y) ∙ ap (down_to 0) many) in
    rw er (in-places l count n (from_last n) k e (record { room = omega arith; held = down-items n (omega arith) ∙ sym is }))
