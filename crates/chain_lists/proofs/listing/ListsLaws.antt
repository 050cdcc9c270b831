-- Laws of the listed chains.
-- Assumes nothing.
use Prim.Native.Nat.{ℕ, ◌+◌, ◌≤◌, ◌<◌, min}
use native.Mathlib.Omega.{arith}
use mathlib.Core.Path.{◌≡◌, refl, ap, ◌∙◌}
use mathlib.Core.List.{List, [], ◌∷◌, map, map-append}
use lib.ListN.{length, take, get_or, set, replicate}
use lib.Seq.{take_all}
use Rattle.reading_rules.proofs.reading.PartingLaws.{All}
use Rattle.template_rules.specs.Drawn as request
use Rattle.template_rules.specs.Drawn.{by_sn}
use Rattle.template_rules.specs.Written.{indices_of}
use Rattle.placement.specs.declared.chain_notes.Placed.{Placed}
use Rattle.placement.specs.chain_notes.Fragment.{noted, gathered}
use Rattle.chain_lists.specs.declared.rising.Rising.{Rising}
use Rattle.chain_lists.specs.rising.Four.{Filled}
use Rattle.chain_lists.specs.rising.Order.{picked, places_in, InOrder}
use Rattle.chain_lists.proofs.rising.FourLaws.{filled_none, added_more}
use Rattle.chain_lists.proofs.rising.OrderLaws.{take_places}
use Rattle.chain_lists.proofs.rising.Picked.{picked-here, picked-past}
use Rattle.chain_lists.proofs.rising.Sorted.{in_order}
use Rattle.chain_lists.proofs.sn_sites.SitesLaws.{first_alone, first_two}
use Rattle.chain_lists.specs.declared.listing.Listed.{Listed}
use Rattle.chain_lists.specs.listing.Lists.{no_list, list_of, list_in, lists_at}

-- ---- the lists of all chains

module _ (ps : List Placed) (l : List ℕ) (i : ℕ) where
  pub lists-more : (q : ℕ) (xs : List Listed) (r : Listed) (d : Placed) → length ps ≡ 4 → i < length l → get_or l i 0 < 4 → q < 4 → r ≡ list_in (get_or ps (get_or l i 0) d) → Filled no_list (lists_at ps (take i l)) q xs
      → Filled no_list (lists_at ps (take (i + 1) l)) (q + 1) (set xs q r)
  unfolding lists_at
  lists-more q xs r d k h g w e f =
      let p : Placed = get_or ps (get_or l i 0) d in
      rw (picked-here ps l i d h (omega arith), e, map-append list_in (picked ps (take i l)) (p ∷ []))
      ((added_more no_list (list_in p) q xs w).holds (map list_in (picked ps (take i l))) f)

  pub lists-past : (q : ℕ) (xs : List Listed) → length ps ≡ 4 → i < length l → 4 ≤ get_or l i 0 → Filled no_list (lists_at ps (take i l)) q xs
      → Filled no_list (lists_at ps (take (i + 1) l)) q xs
  unfolding lists_at
  lists-past q xs k h g f = rw (picked-past ps l i h (omega arith)) f

-- those of all places that count
pub lists-all : (ps : List Placed) (l : List ℕ) (i n q : ℕ) (xs : List Listed) (count : ℕ) → length l ≡ 4 → n ≡ min count 4 → length (take n l) ≤ i → Filled no_list (lists_at ps (take i (take n l))) q xs
    → Filled no_list (lists_at ps (take count l)) q xs
lists-all ps l i n q xs count k e h f = rw (take_all i (take n l) h, take_places l 4 count n k e) at f

pub lists-first : (ps : List Placed) → Filled no_list (lists_at ps []) 0 (replicate 4 no_list)
unfolding lists_at picked gathered
lists-first ps = filled_none no_list no_list

-- ---- the list of one chain

pub list-here : (ps : List Placed) (k : ℕ) (r : Listed) (d : Placed) → length ps ≡ 4 → k < 4 → r ≡ list_in (get_or ps k d)
    → Filled no_list (lists_at ps (k ∷ [])) 1 (r ∷ no_list ∷ no_list ∷ no_list ∷ [])
list-here ps k r d m h e = lists-more ps (k ∷ []) 0 0 (replicate 4 no_list) r d m (omega arith) h (omega arith) e (lists-first ps)

pub list-past : (ps : List Placed) (k : ℕ) → length ps ≡ 4 → 4 ≤ k → Filled no_list (lists_at ps (k ∷ [])) 0 (replicate 4 no_list)
list-past ps k m h = lists-past ps (k ∷ []) 0 0 (replicate 4 no_list) m (omega arith) h (lists-first ps)

pub list-alone : (ps : List Placed) (l : List ℕ) (n count q : ℕ) (xs : List Listed) → length l ≡ 4 → n ≡ min count 4 → n ≡ 1 → Filled no_list (lists_at ps (get_or l 0 0 ∷ [])) q xs
    → Filled no_list (lists_at ps (take count l)) q xs
list-alone ps l n count q xs k e f h = rw (← take_places l 4 count n k e, f, first_alone l (omega arith)) h

-- ---- the lists of two chains

pub lists-here : (ps : List Placed) (a b : ℕ) (x y : Listed) (d : Placed) → length ps ≡ 4 → a < 4 → b < 4 → x ≡ list_in (get_or ps a d) → y ≡ list_in (get_or ps b d)
    → Filled no_list (lists_at ps (a ∷ b ∷ [])) 2 (x ∷ y ∷ no_list ∷ no_list ∷ [])
lists-here ps a b x y d m h g e f =
    lists-more ps (a ∷ b ∷ []) 1 1 (x ∷ no_list ∷ no_list ∷ no_list ∷ []) y d m (omega arith) g (omega arith) f (list-here ps a x d m h e)

pub lists-both : (ps : List Placed) (l : List ℕ) (n count q : ℕ) (xs : List Listed) → length l ≡ 4 → n ≡ min count 4 → n ≡ 2 → Filled no_list (lists_at ps (get_or l 0 0 ∷ get_or l 1 0 ∷ [])) q xs
    → Filled no_list (lists_at ps (take count l)) q xs
lists-both ps l n count q xs k e f h = rw (← take_places l 4 count n k e, f, first_two l (omega arith)) h

-- ---- the listed chains are those of the request

lists-same : (ps : List request.Placed) → map list_in (map noted ps) ≡ map list_of ps
unfolding list_of noted
lists-same [] = refl
lists-same (p ∷ ps) = ap (λ (l : List Listed). record { sn = p.sn; count = length (indices_of p) } ∷ l) (lists-same ps)

-- THE LISTED CHAINS, where they have sn 1 to 4
pub lists-told : (l : List Placed) (count : ℕ) (o : Rising) (ps : List request.Placed) → All (λ p. (1 ≤ p.sn) × (p.sn ≤ 4)) ps → take count l ≡ map noted ps
    → InOrder (take count l) o → lists_at l (places_in o) ≡ map list_of (by_sn ps)
unfolding lists_at
lists-told l count o ps h e i = ap (map list_in) (in_order l count o ps h e i) ∙ lists-same (by_sn ps)
