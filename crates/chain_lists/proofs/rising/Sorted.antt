-- The chains by rising sn: those of sn 1, then those of 2, 3 and 4.
-- Assumes nothing.
use Prim.Native.Nat.{ℕ, zero, suc, ◌+◌, ◌≤◌, ◌<◌}
use native.Mathlib.Omega.{arith}
use native.Mathlib.Decide.{dec_le}
use mathlib.Core.Path.{◌≡◌, refl, sym, ap, ap₂, ◌∙◌}
use mathlib.Core.Bool.{Bool, true, false, cond, false≢true}
use mathlib.Core.List.{List, [], ◌∷◌, ◌++◌, map}
use lib.Dec.{eqb}
use lib.ListN.{length, take, length-map}
use borrow.Author.Tests.{le-leb, lt-leb, eqb-true, eq-eqb, ne_eqb}
use Rattle.reading_rules.proofs.reading.PartingLaws.{All, all_map}
use Rattle.chain_rules.specs.chain.Lists.{only}
use Rattle.chain_rules.proofs.chain.Lists.{all_append}
use Rattle.template_rules.specs.Drawn as request
use Rattle.template_rules.specs.Drawn.{insert_by_sn, by_sn}
use Rattle.placement.specs.declared.chain_notes.Placed.{Placed}
use Rattle.placement.specs.chain_notes.Fragment.{noted}
use Rattle.chain_lists.specs.declared.rising.Rising.{Rising}
use Rattle.chain_lists.specs.rising.Order.{sns_of, places_of, places_from, picked, places_in, InOrder}
use Rattle.chain_lists.proofs.rising.Picked.{picked-append, picked_none, picked-map, picked-take, picked_of, from-within}

-- those of an sn
chains_of : ℕ → List request.Placed → List request.Placed
chains_of k ps = only (λ p. eqb p.sn k) ps

chains_from : ℕ → ℕ → List request.Placed → List request.Placed
unfolding chains_of
chains_from k zero ps = []
chains_from k (suc m) ps = chains_of k ps ++ chains_from (suc k) m ps

insert-past : (p : request.Placed) (qs bs : List request.Placed) → All (λ q. q.sn < p.sn) qs → insert_by_sn p (qs ++ bs) ≡ qs ++ insert_by_sn p bs
unfolding insert_by_sn
insert-past p [] bs h = refl
insert-past p (q ∷ qs) bs h = rw (lt-leb p.sn q.sn h.0) (ap (λ (l : List request.Placed). q ∷ l) (insert-past p qs bs h.1))

insert-front : (p : request.Placed) (bs : List request.Placed) → All (λ q. p.sn ≤ q.sn) bs → insert_by_sn p bs ≡ p ∷ bs
unfolding insert_by_sn
insert-front p [] h = refl
insert-front p (q ∷ bs) h = rw (le-leb p.sn q.sn h.0)

all_of : (P : request.Placed → Type 0) (k : ℕ) (ps : List request.Placed) → ((q : request.Placed) → q.sn ≡ k → P q) → All P (chains_of k ps)
unfolding chains_of only
all_of P k [] f = tt
all_of P k (p ∷ ps) f = go (eqb p.sn k) refl (all_of P k ps f)
  where
    go : (b : Bool) → eqb p.sn k ≡ b → All P (chains_of k ps) → All P (cond b (p ∷ chains_of k ps) (chains_of k ps))
    go true e r = (f p (eqb-true p.sn k e), r)
    go false e r = r

from-least : (n m k : ℕ) (ps : List request.Placed) → n ≤ k → All (λ q. n ≤ q.sn) (chains_from k m ps)
unfolding chains_from
from-least n zero k ps h = tt
from-least n (suc m) k ps h =
    all_append (λ q. n ≤ q.sn) (chains_of k ps) (chains_from (suc k) m ps) (all_of (λ q. n ≤ q.sn) k ps (λ q i. omega (arith, h, i)))
    (from-least n m (suc k) ps (omega arith))

of_other : (p : request.Placed) (k : ℕ) (ps : List request.Placed) → (p.sn ≡ k → ⊥) → chains_of k (p ∷ ps) ≡ chains_of k ps
unfolding chains_of only
of_other p k ps h = rw (ne_eqb p.sn k h)

of-own : (p : request.Placed) (k : ℕ) (ps : List request.Placed) → eqb p.sn k ≡ true → chains_of k (p ∷ ps) ≡ p ∷ chains_of k ps
unfolding chains_of only
of-own p k ps e = rw e

from-skip : (p : request.Placed) (m k : ℕ) (ps : List request.Placed) → p.sn < k → chains_from k m (p ∷ ps) ≡ chains_from k m ps
unfolding chains_from
from-skip p zero k ps h = refl
from-skip p (suc m) k ps h =
    ap₂ (λ (a b : List request.Placed). a ++ b) (of_other p k ps (λ e. omega (arith, h, e))) (from-skip p m (suc k) ps (omega arith))

above : (n k : ℕ) → k ≤ n → (n ≡ k → ⊥) → k < n
above n k h o = go (dec_le n k)
  where
    go : Dec (n ≤ k) → k < n
    go (yes l) = absurd (o (omega arith))
    go (no l) = omega arith

-- one chain more goes before those of its own sn
insert-from : (p : request.Placed) (m k : ℕ) (ps : List request.Placed) → k ≤ p.sn → p.sn < k + m → insert_by_sn p (chains_from k m ps) ≡ chains_from k m (p ∷ ps)
unfolding chains_from
insert-from p zero k ps h g = absurd (omega arith)
insert-from p (suc m) k ps h g = go (eqb p.sn k) refl (λ l. insert-from p m (suc k) ps l (omega arith))
  where
    go : (b : Bool) → eqb p.sn k ≡ b → (k < p.sn → insert_by_sn p (chains_from (suc k) m ps) ≡ chains_from (suc k) m (p ∷ ps))
        → insert_by_sn p (chains_from k (suc m) ps) ≡ chains_from k (suc m) (p ∷ ps)
    go true e r =
        let same : p.sn ≡ k = eqb-true p.sn k e in
        insert-front p (chains_from k (suc m) ps) (from-least p.sn (suc m) k ps (omega arith))
        ∙ ap₂ (λ (a b : List request.Placed). a ++ b) (sym (of-own p k ps e)) (sym (from-skip p m (suc k) ps (omega arith)))
    go false e r =
        let other : p.sn ≡ k → ⊥ = λ i. let z : false ≡ true = sym e ∙ eq-eqb p.sn k i in absurd (false≢true z) in
        let past : k < p.sn = above p.sn k h other in
        insert-past p (chains_of k ps) (chains_from (suc k) m ps) (all_of (λ q. q.sn < p.sn) k ps (λ q i. omega (arith, past, i)))
        ∙ ap₂ (λ (a b : List request.Placed). a ++ b) (sym (of_other p k ps other)) (r past)

sorted-from : (ps : List request.Placed) → All (λ p. (1 ≤ p.sn) × (p.sn < 5)) ps → by_sn ps ≡ chains_from 1 4 ps
unfolding by_sn chains_from chains_of only
sorted-from [] h = refl
sorted-from (p ∷ ps) h = ap (λ (l : List request.Placed). insert_by_sn p l) (sorted-from ps h.1) ∙ insert-from p 4 1 ps h.0.0 (omega (arith, h.0))

-- ---- their places

abbrev sn_of : request.Placed → ℕ
sn_of p = p.sn

picked-from : (m k : ℕ) (ps : List request.Placed) → picked ps (places_from k m (map sn_of ps)) ≡ chains_from k m ps
unfolding places_from chains_from chains_of
picked-from zero k ps = picked_none ps
picked-from (suc m) k ps =
    picked-append ps (places_of k 0 (map sn_of ps)) (places_from (suc k) m (map sn_of ps))
    ∙ ap₂ (λ (a b : List request.Placed). a ++ b) (picked_of sn_of k ps) (picked-from m (suc k) ps)

sns-noted : (ps : List request.Placed) → sns_of (map noted ps) ≡ map sn_of ps
unfolding sns_of noted
sns-noted [] = refl
sns-noted (p ∷ ps) = ap (λ (l : List ℕ). p.sn ∷ l) (sns-noted ps)

-- THE CHAINS BY RISING SN, and so whatever is said of each: it is picked by their places
pub picked-sorted : {A : Type 0} (f : request.Placed → A) (l : List A) (ps : List request.Placed) → All (λ p. (1 ≤ p.sn) × (p.sn ≤ 4)) ps → take (length ps) l ≡ map f ps
    → picked l (places_from 1 4 (sns_of (map noted ps))) ≡ map f (by_sn ps)
picked-sorted f l ps h g =
    let within : All (λ (p : request.Placed). (1 ≤ p.sn) × (p.sn < 5)) ps = all_map {P = λ (p : request.Placed). (1 ≤ p.sn) × (p.sn ≤ 4)} (λ p q. (q.0, omega (arith, q.1))) ps h in
    rw (sns-noted ps)
    (sym (picked-take (length ps) l (places_from 1 4 (map sn_of ps)) (from-within (length ps) 4 1 (map sn_of ps) (omega (arith, length-map ps sn_of))))
    ∙ (ap (λ (m : List _). picked m (places_from 1 4 (map sn_of ps))) g
    ∙ (picked-map f ps (places_from 1 4 (map sn_of ps)) ∙ ap (map f) (picked-from 4 1 ps ∙ sym (sorted-from ps within)))))

-- ---- in an array

-- as many as there are
pub take_counted : {A : Type 0} (count : ℕ) (l : List A) → take (length (take count l)) l ≡ take count l
take_counted zero l = refl
take_counted (suc n) [] = refl
take_counted (suc n) (x ∷ l) = ap (λ (r : List _). x ∷ r) (take_counted n l)

pub in_order : (l : List Placed) (count : ℕ) (r : Rising) (ps : List request.Placed) → All (λ p. (1 ≤ p.sn) × (p.sn ≤ 4)) ps → take count l ≡ map noted ps
    → InOrder (take count l) r → picked l (places_in r) ≡ map noted (by_sn ps)
in_order l count r ps h e o =
    let many : length (take count l) ≡ length ps = ap length e ∙ length-map ps noted in
    rw (o.held, e) (picked-sorted noted l ps h (rw (← many) (take_counted count l ∙ e)))
