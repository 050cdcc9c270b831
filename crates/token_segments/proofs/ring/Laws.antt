-- Laws of ring segments: one for each way out.
-- Assumes nothing.
use Prim.Native.Nat.{ℕ, ◌+◌, ◌-◌, ◌≤◌, ◌<◌}
use native.Mathlib.Nat.{sub-zero}
use native.Mathlib.Numerals.{add-one}
use mathlib.Core.Path.{◌≡◌, refl, sym, ◌∙◌}
use mathlib.Core.Bool.{Bool, true, false, not}
use mathlib.Core.List.{List, []}
use lib.ListN.{length, take, drop}
use borrow.Author.Tests.{lt-ltb, le-ltb, eq-eqb, ne_eqb, not-true, not-false}
use Rattle.scanner.specs.scan.Part.{Place, index_of}
use Rattle.std.specs.Prelude.{Option, Some, None, Result, Ok, Err}
use Rattle.std.specs.Result.{IsErrAnd}
use Rattle.scanner.proofs.scan.Laws.{to_end}
use Rattle.token_syntax.specs.form.Parts.{list_parts}
use Rattle.token_syntax.specs.form.Form.{ends_in_parenthesis, after_place}
use Rattle.token_syntax.specs.form.Numbers.{trimmed_number, ring_count}
use Rattle.chain_record.specs.declared.plain.DbPos.{DbPos}
use Rattle.chain_record.specs.declared.plain.Ring.{Ring}
use Rattle.chain_record.specs.plain.Chain.{Chain, Outcome, Read, Refused, with_ring}
use Rattle.chain_record.specs.declared.parsed.ParsedChain.{ParsedChain}
use Rattle.chain_record.specs.declared.parsed.Counts.{Counts}
use Rattle.chain_record.specs.declared.refusal.Refusal.{Refusal}
use Rattle.chain_record.specs.refusal.Refusal.{number_of}
use Rattle.chain_record.specs.parsed.Parsed.{Answer, Has, Refuses, first, bonds_as, rings_as, Gathered, gather, ungrouped_as, on, Grows, Fills, Pushes, Collects}
use Rattle.chain_record.proofs.parsed.Laws.{err_kept, fills-refused, fills-read, fills_same, fills-stop, fills-then, fills-on, ring-ungrouped, bonds-ungrouped, bonds-ungrouped-refused}
use Rattle.token_head.specs.positions.Positions.{ring_bond_list}
use Rattle.token_features.specs.features.Features.{ring_of}
use Rattle.token_features.specs.declared.features.Segment.{Segment}
use Rattle.token_features.specs.declared.features.Segment.TheVariants.{Cycle, Located, Repeated, Oxygens, Unreadable}
use Rattle.token_segments.specs.ring.Ring.{ring_or11, closed_or11, ring_list, ring_listed, ring_bonds, ring_sized, ring_segment}

-- ---- a list that has to be closed

module _ {S : Type 0} {put : ParsedChain → S → ParsedChain} (f : List ℕ → Chain → Outcome) (s : List ℕ) (c : S) (b : Bool) (e : b ≡ ends_in_parenthesis s) where
  pub closed-not : not b ≡ true → Fills put c (Refuses 11) (closed_or11 f s)
  unfolding closed_or11
  closed-not h = fills-refused 11 c (closed_or11 f s) (λ x d u. rw (sym e ∙ not-true b h))

  pub closed-by : (r : Answer S) → not b ≡ false → Fills put c r (f (take (length s - 1 - 0) s)) → Fills put c r (closed_or11 f s)
  unfolding closed_or11
  closed-by r h w = fills_same w (λ x d u. rw (sub-zero (length s - 1), sym e ∙ not-false b h))

-- ---- a ring

module _ (g : Ring) (n : ℕ) (list : List ℕ) (k : Counts) (bs : List DbPos) (rs : List Ring) (m : ℕ) (e : m ≡ length (list_parts list)) where
  pub list-many : n < m → Fills ungrouped_as (gather k bs [] rs) (Refuses 11) (ring_list g n list)
  unfolding ring_list
  list-many h = fills-refused 11 (gather k bs [] rs) (ring_list g n list) (λ x d u. rw (← e, lt-ltb n m h))

  module _ (h : m ≤ n) (q : Result ℕ Refusal) (ys : List DbPos) (w : Pushes bonds_as k.bonds bs q ys (ring_bond_list g.start g.end list)) where
    pub list-refused : (a : Refusal) (r : Result Counts Refusal) → q ≡ Err a → IsErrAnd r (λ (y : Refusal). y ≡ a) → Collects ungrouped_as (gather k bs [] rs) r ys [] rs (ring_list g n list)
    unfolding ring_list
    list-refused a r z t =
        let v = bonds-ungrouped-refused k bs [] rs (ring_bond_list g.start g.end list) (number_of a) (rw z at w) in
        rw (err_kept r a t) (fills_same (fills-stop (λ e. Read (with_ring g e)) v) (λ x d u. sym (rw (← e, le-ltb n m h))))

    pub list_read : (a i : ℕ) (zs : List Ring) → q ≡ Ok a → Grows rings_as (first k.rings rs) (first i zs) (with_ring g)
        → Fills ungrouped_as (gather k bs [] rs) (Has (gather (record { bonds = a; groups = k.groups; rings = i; oxygens = k.oxygens }) ys [] zs)) (ring_list g n list)
    unfolding ring_list
    list_read a i zs z t =
        let v = bonds-ungrouped k bs [] rs (ring_bond_list g.start g.end list) a ys (rw z at w) in
        fills_same (fills-then v (fills-read (ring-ungrouped (record { bonds = a; groups = k.groups; rings = k.rings; oxygens = k.oxygens }) i ys [] rs zs (with_ring g) t))) (λ x d u. sym (rw (← e, le-ltb n m h)))

module _ (g : Ring) (n : ℕ) (s : List ℕ) (c : Gathered) (b : Bool) (e : b ≡ ends_in_parenthesis s) where
  pub ring-open : not b ≡ true → Fills ungrouped_as c (Refuses 11) (ring_listed g n s)
  unfolding ring_listed
  ring-open h = closed-not (ring_list g n) s c b e h

  pub ring-closed : (r : Answer Gathered) → not b ≡ false → Fills ungrouped_as c r (ring_list g n (take (length s - 1 - 0) s)) → Fills ungrouped_as c r (ring_listed g n s)
  unfolding ring_listed
  ring-closed r h w = closed-by (ring_list g n) s c b e r h w

module _ (g : Ring) (s : List ℕ) (q : ℕ) (p : Place s (index_of 40 s) q) (a : Option ℕ) (e : a ≡ ring_count (take (q - 0) s)) where
  count_at : ring_count (take (index_of 40 s) s) ≡ a
  count_at = rw (sub-zero q, p.is) at (sym e)

  pub bonds-unreadable : (c : Gathered) → a ≡ None → Fills ungrouped_as c (Refuses 11) (ring_bonds g s)
  unfolding ring_bonds
  bonds-unreadable c h = fills-refused 11 c (ring_bonds g s) (λ x d u. rw (count_at ∙ h))

  module _ (n : ℕ) (h : a ≡ Some n) where
    pub bonds-unlisted : (k : Counts) (bs : List DbPos) (rs zs : List Ring) (i : ℕ) → q ≡ length s → Grows rings_as (first k.rings rs) (first i zs) (with_ring g)
        → Fills ungrouped_as (gather k bs [] rs) (Has (gather (record { bonds = k.bonds; groups = k.groups; rings = i; oxygens = k.oxygens }) bs [] zs)) (ring_bonds g s)
    unfolding ring_bonds
    bonds-unlisted k bs rs zs i l t = fills_same (fills-read (ring-ungrouped k i bs [] rs zs (with_ring g) t)) (λ x d u. sym (rw (count_at ∙ h, ← p.is, eq-eqb q (length s) l)))

    pub bonds-listed : (c : Gathered) (r : Answer Gathered) → (q ≡ length s → ⊥) → Fills ungrouped_as c r (ring_listed g n (take (length s - (q + 1)) (drop (q + 1) s))) → Fills ungrouped_as c r (ring_bonds g s)
    unfolding ring_bonds
    bonds-listed c r k w = fills_same w (λ x d u. rw (to_end (q + 1) s, add-one q) (sym (rw (count_at ∙ h, ← p.is, ne_eqb q (length s) k))))

-- an answer whose variant is not the ring's, the first
no-ring : (g : Segment) (f : Ring → Outcome) → ((r : Ring) → g ≡ Cycle r → ⊥) → ring_or11 g f ≡ Refused 11
no-ring (Cycle r) f n = absurd (n r refl)
no-ring (Located g) f n = refl
no-ring (Repeated row m) f n = refl
no-ring (Oxygens m) f n = refl
no-ring Unreadable f n = refl

module _ (start end : ℕ) (s : List ℕ) (carbon : ℕ) (c : Gathered) (m : ℕ) (p : Place s (index_of 58 s) m) (a : Option ℕ) (e : a ≡ trimmed_number (take (m - 0) s)) where
  size-at : trimmed_number (take (index_of 58 s) s) ≡ a
  size-at = rw (sub-zero m, p.is) at (sym e)

  pub size-unreadable : a ≡ None → Fills (on carbon ungrouped_as) c (Refuses 11) (ring_sized start end s)
  unfolding ring_sized
  size-unreadable h = fills-refused 11 c (ring_sized start end s) (λ x d u. rw (size-at ∙ h))

  module _ (size : ℕ) (h : a ≡ Some size) (g : Segment) (f : g ≡ ring_of start end size carbon) where
    pub size-wrong : ((r : Ring) → g ≡ Cycle r → ⊥) → Fills (on carbon ungrouped_as) c (Refuses 11) (ring_sized start end s)
    unfolding ring_sized
    size-wrong n =
        fills-refused 11 c (ring_sized start end s)
        (λ x d u. let z : ring_of start end size d.carbon ≡ g = rw (← u.carbon) (sym f) in rw (size-at ∙ h, z) (no-ring g (λ r. ring_bonds r (after_place (index_of 58 s) s) d) n))

    pub size-sized : (t : List ℕ) (ring : Ring) (r : Answer Gathered) → g ≡ Cycle ring → t ≡ after_place m s → Fills ungrouped_as c r (ring_bonds ring t) → Fills (on carbon ungrouped_as) c r (ring_sized start end s)
    unfolding ring_sized
    size-sized t ring r k l w = fills_same (fills-on carbon w) (λ x d u. sym (rw (size-at ∙ h, ← u.carbon, sym f ∙ k, ← p.is, ← l)))

module _ (s : List ℕ) (dash cy carbon : ℕ) (c : Gathered) (a : Option ℕ) (e : a ≡ trimmed_number (take (dash - 0) s)) where
  start-at : trimmed_number (take dash s) ≡ a
  start-at = rw (sub-zero dash) at (sym e)

  pub start-unreadable : a ≡ None → Fills (on carbon ungrouped_as) c (Refuses 11) (ring_segment s dash cy)
  unfolding ring_segment
  start-unreadable h = fills-refused 11 c (ring_segment s dash cy) (λ x d u. rw (start-at ∙ h))

  module _ (start : ℕ) (h : a ≡ Some start) (b : Option ℕ) (f : b ≡ trimmed_number (take (cy - (dash + 1)) (drop (dash + 1) s))) where
    pub end-unreadable : b ≡ None → Fills (on carbon ungrouped_as) c (Refuses 11) (ring_segment s dash cy)
    unfolding ring_segment
    end-unreadable i = fills-refused 11 c (ring_segment s dash cy) (λ x d u. rw (start-at ∙ h, sym f ∙ i))

    pub ring-segment-is : (end : ℕ) (r : Answer Gathered) → b ≡ Some end → Fills (on carbon ungrouped_as) c r (ring_sized start end (take (length s - (cy + 2)) (drop (cy + 2) s))) → Fills (on carbon ungrouped_as) c r (ring_segment s dash cy)
    unfolding ring_segment
    ring-segment-is end r i w = fills_same w (λ x d u. rw (to_end (cy + 2) s) (sym (rw (start-at ∙ h, sym f ∙ i))))
