-- Laws of segments: one for each way out. The loops over parts have theirs in `token_head::positions`, and rings in `ring`.
-- Assumes nothing.
use Prim.Native.Nat.{ℕ, suc, ◌+◌, ◌-◌, ◌≤◌, ◌<◌}
use native.Mathlib.Nat.{sub-zero}
use native.Mathlib.Omega.{arith}
use mathlib.Core.Path.{◌≡◌, refl, sym, ap, ◌∙◌}
use mathlib.Core.Bool.{Bool, true, false, not}
use mathlib.Core.List.{List, []}
use lib.ListN.{length, take, drop, length-drop}
use lib.Seq.{drop-drop}
use borrow.Author.Tests.{lt-ltb, le-ltb, eq-eqb, ne_eqb}
use Rattle.scanner.specs.scan.Part.{Place, index_of, trimmed, ending, first_byte}
use Rattle.scanner.proofs.scan.Laws.{to_end}
use Rattle.scanner.specs.declared.reader.Part.{Part}
use Rattle.scanner.specs.reader.Reading.{part_from}
use Rattle.scanner.proofs.reader.Laws.{part-order, part-within, part-next, part-starts, part-place}
use Rattle.token_syntax.specs.form.Parts.{parts_at}
use Rattle.token_syntax.specs.form.Form.{segment_text, after_opening, before_closing, form_of, Formed, ends_in_parenthesis, after_place}
use Rattle.token_syntax.specs.declared.form.Form.{Form}
use Rattle.token_syntax.specs.declared.form.Form.TheVariants.{Ring as Form-as-Ring, Repeated as Form-as-Repeated, Listed as Form-as-Listed, Parts as Form-as-Parts}
use Rattle.chain_record.specs.declared.plain.Bridge.{Bridge}
use Rattle.chain_record.specs.declared.plain.DbPos.{DbPos}
use Rattle.chain_record.specs.declared.plain.Mod.{Mod}
use Rattle.chain_record.specs.declared.plain.Ring.{Ring}
use Rattle.chain_record.specs.plain.Chain.{Chain, Outcome, Read, with_group, with_ring, counts_of, max_groups}
use Rattle.chain_record.specs.declared.parsed.Counts.{Counts}
use Rattle.std.specs.Prelude.{Result, Ok, Err}
use Rattle.std.specs.Result.{IsErrAnd}
use Rattle.chain_record.specs.declared.refusal.Refusal.{Refusal}
use Rattle.chain_record.specs.refusal.Refusal.{number_of}
use Rattle.chain_record.specs.declared.parsed.ParsedChain.{ParsedChain}
use Rattle.chain_record.specs.parsed.Parsed.{Answer, Has, Refuses, Counting, first, groups_as, rings_as, Gathered, gather, unbonded_as, ungrouped_as, all_as, on, Grows, Fills, Pushes, Collects, checked}
use Rattle.chain_record.proofs.parsed.Laws.{err_kept, fills-none, fills-refused, fills-read, fills_same, fills-stop, fills-then, fills-on, ring-unbonded, group-unbonded, groups-unbonded, groups-unbonded-refused, oxygens-set, ungrouped-all, unbonded-all, counts_all, checked-judges}
use Rattle.token_head.specs.positions.Each.{each}
use Rattle.token_head.proofs.positions.Each.{Onward, onward-start, each-stop, each_last, each_more}
use Rattle.token_features.specs.features.Features.{feature_of, listed_as, part_of, repeated_of}
use Rattle.token_features.specs.declared.features.Segment.{Segment}
use Rattle.token_features.specs.declared.features.Segment.TheVariants.{Cycle, Located, Repeated, Oxygens, Unreadable}
use Rattle.token_features.specs.declared.features.Feature.{Feature}
use Rattle.token_features.specs.declared.features.Feature.TheVariants.{Ring as Feature-as-Ring, Group as Feature-as-Group, Other as Feature-as-Other}
use Rattle.token_segments.specs.ring.Ring.{ring_segment}
use Rattle.token_segments.proofs.ring.Laws.{closed-not, closed-by}
use Rattle.token_segments.specs.segment.Segment.{copies, many_times, with_segment, listed_at, plain_list, listed_feature, listed_segment, part_at, comma_parts, modification, segment_at, segments}

-- ---- a group many times

-- the copies that are left give all of them
pub record Copying (e c : Counting Mod) (g : Mod) (n left : ℕ) : Type 0 where
  pub then : (q : Counting Mod) → Grows groups_as c q (copies left g) → Grows groups_as e q (copies n g)

pub copies-start : (c : Counting Mod) (g : Mod) (n : ℕ) → Copying c c g n n
copies-start c g n = record { then = λ q w. w }

module _ (e c : Counting Mod) (g : Mod) (n left : ℕ) (w : Copying e c g n left) where
  pub copies-more : (q : Counting Mod) → 0 < left → Grows groups_as c q (with_group g) → Copying e q g n (left - 1)
  unfolding copies
  copies-more q h t =
      let k : left ≡ suc (left - 1) = omega arith in
      record { then = λ z v. w.then z (rw k (record { takes = λ x. record { holds = λ d u. (v.takes x).holds (with_group g d) ((t.takes x).holds d u) } })) }

  pub copies-end : left ≤ 0 → Grows groups_as e c (copies n g)
  unfolding copies
  copies-end h = let k : left ≡ 0 = omega arith in w.then c (rw k (record { takes = λ x. record { holds = λ d u. u } }))

module _ (c : Counting Mod) (n : ℕ) (g : Mod) where
  pub many-before : 16 < c.count → Fills groups_as c (Refuses 31) (many_times n g)
  unfolding many_times
  many-before h = fills-refused 31 c (many_times n g) (λ x d k. rw (lt-ltb max_groups (length d.groups + n) (omega (arith, k.groups.counted))))

  module _ (b : c.count ≤ 16) where
    pub many-over : 16 - c.count < n → Fills groups_as c (Refuses 31) (many_times n g)
    unfolding many_times
    many-over h = fills-refused 31 c (many_times n g) (λ x d k. rw (lt-ltb max_groups (length d.groups + n) (omega (arith, k.groups.counted))))

    pub many-fit : (q : Counting Mod) → n ≤ 16 - c.count → Grows groups_as c q (copies n g) → Fills groups_as c (Has q) (many_times n g)
    unfolding many_times
    many-fit q h t = fills_same (fills-read t) (λ x d k. sym (rw (le-ltb max_groups (length d.groups + n) (omega (arith, k.groups.counted)))))

-- ---- what each answer adds

module _ (s : Segment) (k : Counts) (gs : List Mod) (rs : List Ring) where
  pub adds-ring : (r : Ring) (m : ℕ) (ys : List Ring) → s ≡ Cycle r → Grows rings_as (first k.rings rs) (first m ys) (with_ring r)
      → Fills unbonded_as (gather k [] gs rs) (Has (gather (record { bonds = k.bonds; groups = k.groups; rings = m; oxygens = k.oxygens }) [] gs ys)) (with_segment s)
  adds-ring r m ys e t = fills_same (fills-read (ring-unbonded k m [] gs rs (with_ring r) ys t)) (λ x d u. rw e)

  pub adds-group : (g : Mod) (m : ℕ) (ys : List Mod) → s ≡ Located g → Grows groups_as (first k.groups gs) (first m ys) (with_group g)
      → Fills unbonded_as (gather k [] gs rs) (Has (gather (record { bonds = k.bonds; groups = m; rings = k.rings; oxygens = k.oxygens }) [] ys rs)) (with_segment s)
  adds-group g m ys e t = fills_same (fills-read (group-unbonded k m [] gs rs (with_group g) ys t)) (λ x d u. rw e)

  pub adds-oxygens : (n : ℕ) → s ≡ Oxygens n
      → Fills unbonded_as (gather k [] gs rs) (Has (gather (record { bonds = k.bonds; groups = k.groups; rings = k.rings; oxygens = n }) [] gs rs)) (with_segment s)
  adds-oxygens n e = fills_same (fills-read (oxygens-set k n [] gs rs)) (λ x d u. rw e)

  module _ (row n : ℕ) (q : Result ℕ Refusal) (ys : List Mod) (e : s ≡ Repeated row n) (w : Pushes groups_as k.groups gs q ys (many_times n (record { pos = 0; row = row }))) where
    pub adds-many : (m : ℕ) → q ≡ Ok m
        → Fills unbonded_as (gather k [] gs rs) (Has (gather (record { bonds = k.bonds; groups = m; rings = k.rings; oxygens = k.oxygens }) [] ys rs)) (with_segment s)
    adds-many m z = fills_same (groups-unbonded k [] gs rs (many_times n (record { pos = 0; row = row })) m ys (rw z at w)) (λ x d u. rw e)

    pub adds-too-many : (m : Refusal) (r : Result Counts Refusal) → q ≡ Err m → IsErrAnd r (λ (y : Refusal). y ≡ m) → Collects unbonded_as (gather k [] gs rs) r [] ys rs (with_segment s)
    adds-too-many m r z t = rw (err_kept r m t) (fills_same (groups-unbonded-refused k [] gs rs (many_times n (record { pos = 0; row = row })) (number_of m) (rw z at w)) (λ x d u. rw e))

pub adds-nothing : (s : Segment) (c : Gathered) → s ≡ Unreadable → Fills unbonded_as c (Refuses 11) (with_segment s)
adds-nothing s c e = fills-refused 11 c (with_segment s) (λ x d u. rw e)

-- ---- a list of a feature's positions

module _ (carbon : ℕ) (c : Gathered) (r : Answer Gathered) where
  pub listed-one : (f : Feature) (s : List ℕ) (g : Segment) → g ≡ listed_as f s carbon → Fills unbonded_as c r (with_segment g) → Fills (on carbon unbonded_as) c r (listed_at f s)
  unfolding listed_at
  listed-one f s g e w = fills_same (fills-on carbon w) (λ x d k. rw (← k.carbon, ← e))

  module _ (f : Feature) (s : List ℕ) where
    pub listed-ring : (b : Bridge) → f ≡ Feature-as-Ring b → Fills (on carbon unbonded_as) c r (plain_list f s) → Fills (on carbon unbonded_as) c r (listed_feature f s)
    listed-ring b e w = fills_same w (λ x d k. rw e)

    pub listed-group : (row : ℕ) → f ≡ Feature-as-Group row → Fills (on carbon unbonded_as) c r (plain_list f s) → Fills (on carbon unbonded_as) c r (listed_feature f s)
    listed-group row e w = fills_same w (λ x d k. rw e)

  module _ (abbr s : List ℕ) (b : Bool) (e : b ≡ ends_in_parenthesis s) where
    pub listed-closed : (f : Feature) → not b ≡ false → f ≡ feature_of abbr → Fills (on carbon unbonded_as) c r (listed_feature f (take (length s - 1 - 0) s)) → Fills (on carbon unbonded_as) c r (listed_segment abbr s)
    unfolding listed_segment
    listed-closed f h k w = closed-by (listed_feature (feature_of abbr)) s c b e r h (fills_same w (λ x d u. rw k))

module _ (carbon : ℕ) (c : Gathered) where
  pub listed-other : (f : Feature) (s : List ℕ) → f ≡ Feature-as-Other → Fills (on carbon unbonded_as) c (Refuses 11) (listed_feature f s)
  listed-other f s e = fills-refused 11 c (listed_feature f s) (λ x d k. rw e)

  pub listed-open : (abbr s : List ℕ) (b : Bool) → b ≡ ends_in_parenthesis s → not b ≡ true → Fills (on carbon unbonded_as) c (Refuses 11) (listed_segment abbr s)
  unfolding listed_segment
  listed-open abbr s b e h = closed-not (listed_feature (feature_of abbr)) s c b e h

-- ---- a loop over parts, with the arrays that its turns leave

module _ {put : ParsedChain → Gathered → ParsedChain} (f : List ℕ → Chain → Outcome) (b : ℕ) (e c : Gathered) (whole : Chain → Outcome) (t : List ℕ) (n : ℕ)
    (o : Onward put e c whole (each f (parts_at b t))) (p : Place t (index_of b t) n) (r : Result Counts Refusal) (ys : List DbPos) (hs : List Mod) (zs : List Ring) (w : Collects put c r ys hs zs (f (take (n - 0) t))) where
  pub turn-stop : (m : Refusal) (q : Result Counts Refusal) → r ≡ Err m → IsErrAnd q (λ (y : Refusal). y ≡ m) → Collects put e q ys hs zs whole
  turn-stop m q h k = rw (err_kept q m k) (each-stop f b e c whole t n o p (number_of m) (rw h at w))

  pub turn_last : (k : Counts) → r ≡ Ok k → n ≡ length t → Collects put e (Ok k) ys hs zs whole
  turn_last k h l = each_last f b e c whole t n o p (Has (gather k ys hs zs)) (rw h at w) l

  pub turn_more : (k : Counts) → r ≡ Ok k → (n ≡ length t → ⊥) → Onward put e (gather k ys hs zs) whole (each f (parts_at b (take (length t - (n + 1)) (drop (n + 1) t))))
  turn_more k h l = each_more f b e c whole t n o p (gather k ys hs zs) (rw h at w) l

-- ---- parts between commas

pub parting-start : (carbon : ℕ) (s : List ℕ) (c : Gathered) → Onward (on carbon unbonded_as) c c (comma_parts s) (each part_at (parts_at 44 s))
unfolding comma_parts
parting-start carbon s c = onward-start c (each part_at (parts_at 44 s))

module _ (carbon : ℕ) (e c : Gathered) (whole : Chain → Outcome) (t : List ℕ) (n : ℕ) (g : Segment) (o : Onward (on carbon unbonded_as) e c whole (each part_at (parts_at 44 t)))
    (f : Place t (index_of 44 t) n) (k : g ≡ part_of (take (n - 0) t) carbon) (r : Result Counts Refusal) (ys : List DbPos) (hs : List Mod) (zs : List Ring) (w : Collects unbonded_as c r ys hs zs (with_segment g)) where
  one : Collects (on carbon unbonded_as) c r ys hs zs (part_at (take (n - 0) t))
  unfolding part_at
  one = fills_same (fills-on carbon w) (λ x d u. rw (← u.carbon, ← k))

  pub part-stop : (m : Refusal) (q : Result Counts Refusal) → r ≡ Err m → IsErrAnd q (λ (y : Refusal). y ≡ m) → Collects (on carbon unbonded_as) e q ys hs zs whole
  part-stop = turn-stop part_at 44 e c whole t n o f r ys hs zs one

  pub part-last : (q : Counts) → r ≡ Ok q → n ≡ length t → Collects (on carbon unbonded_as) e (Ok q) ys hs zs whole
  part-last = turn_last part_at 44 e c whole t n o f r ys hs zs one

  pub part-more : (q : Counts) → r ≡ Ok q → (n ≡ length t → ⊥) → Onward (on carbon unbonded_as) e (gather q ys hs zs) whole (each part_at (parts_at 44 (take (length t - (n + 1)) (drop (n + 1) t))))
  part-more = turn_more part_at 44 e c whole t n o f r ys hs zs one

-- ---- a segment

module _ (s : List ℕ) (carbon : ℕ) (k : Counts) (bs : List DbPos) (gs : List Mod) (rs : List Ring) (r : Result Counts Refusal) (f : Form) (w : Formed s (form_of s) f) where
  pub as-ring : (dash cy : ℕ) (ys : List DbPos) (zs : List Ring) → f ≡ Form-as-Ring dash cy → Collects (on carbon ungrouped_as) (gather k bs [] rs) r ys [] zs (ring_segment s dash cy)
      → Collects (on carbon all_as) (gather k bs gs rs) r ys gs zs (modification s)
  unfolding modification
  as-ring dash cy ys zs h v =
      fills_same (ungrouped-all carbon k bs gs rs r (ring_segment s dash cy) ys zs v) (λ x d u. sym (rw (sym w.is ∙ h)))

  pub as-repeated : (t : List ℕ) (g : Segment) (hs : List Mod) (zs : List Ring) → f ≡ Form-as-Repeated → t ≡ after_place 0 s → g ≡ repeated_of t → Collects unbonded_as (gather k [] gs rs) r [] hs zs (with_segment g)
      → Collects (on carbon all_as) (gather k bs gs rs) r bs hs zs (modification s)
  unfolding modification
  as-repeated t g hs zs h l e v =
      fills_same (unbonded-all carbon k bs gs rs r (with_segment g) hs zs (fills-on carbon v)) (λ x d u. sym (rw (sym w.is ∙ h, e, l)))

  pub as-listed : (n : ℕ) (t : List ℕ) (hs : List Mod) (zs : List Ring) → f ≡ Form-as-Listed n → t ≡ after_place n s → Collects (on carbon unbonded_as) (gather k [] gs rs) r [] hs zs (listed_segment (take (n - 0) s) t)
      → Collects (on carbon all_as) (gather k bs gs rs) r bs hs zs (modification s)
  unfolding modification
  as-listed n t hs zs h e v =
      fills_same (unbonded-all carbon k bs gs rs r (listed_segment (take (n - 0) s) t) hs zs v) (λ x d u. sym (rw (sym w.is ∙ h, e, sub-zero n)))

  pub as_parts : (hs : List Mod) (zs : List Ring) → f ≡ Form-as-Parts → Collects (on carbon unbonded_as) (gather k [] gs rs) r [] hs zs (comma_parts s)
      → Collects (on carbon all_as) (gather k bs gs rs) r bs hs zs (modification s)
  unfolding modification
  as_parts hs zs h v = fills_same (unbonded-all carbon k bs gs rs r (comma_parts s) hs zs v) (λ x d u. sym (rw (sym w.is ∙ h)))

module _ (s t : List ℕ) (carbon : ℕ) (c : Gathered) (e : t ≡ segment_text s) where
  pub segment-empty : length t ≡ 0 → Fills (on carbon all_as) c (Has c) (segment_at s)
  unfolding segment_at
  segment-empty h = fills_same (fills-none c) (λ x d k. sym (rw (← e, eq-eqb (length t) 0 h)))

  module _ (n : length t ≡ 0 → ⊥) (q : Result Counts Refusal) (bs : List DbPos) (gs : List Mod) (rs : List Ring) (w : Collects (on carbon all_as) c q bs gs rs (modification t)) where
    pub segment-refused : (m : Refusal) (r : Result Counts Refusal) → q ≡ Err m → IsErrAnd r (λ (y : Refusal). y ≡ m) → Collects (on carbon all_as) c r bs gs rs (segment_at s)
    unfolding segment_at
    segment-refused m r h k = rw (err_kept r m k) (fills_same (fills-stop counts_of (rw h at w)) (λ x d u. sym (rw (← e, ne_eqb (length t) 0 n))))

    pub segment-counted : (k : Counts) (r : Result Counts Refusal) → q ≡ Ok k → r ≡ checked k → Collects (on carbon all_as) c r bs gs rs (segment_at s)
    unfolding segment_at
    segment-counted k r h v =
        rw v (fills_same (fills-then (rw h at w) (counts_all carbon k bs gs rs (checked k) counts_of (checked-judges k))) (λ x d k. sym (rw (← e, ne_eqb (length t) 0 n))))

-- ---- the segments of a token, one after the other: the part that starts at a place, and the place after it

module _ (carbon : ℕ) (e c : Gathered) (whole : Chain → Outcome) (s : List ℕ) (at : ℕ) (p : Part) (o : Onward (on carbon all_as) e c whole (each segment_at (parts_at 59 (drop at s))))
    (l : at ≤ length s) (h : p ≡ part_from 59 s at) (r : Result Counts Refusal) (ys : List DbPos) (hs : List Mod) (zs : List Ring) (w : Collects (on carbon all_as) c r ys hs zs (segment_at (take (p.to - p.from) (drop p.from s)))) where
  place : Place (drop at s) (index_of 59 (drop at s)) (p.to - at)
  place = part-place 59 s at p h l

  -- the part is the one that starts at that place
  here : Collects (on carbon all_as) c r ys hs zs (segment_at (take (p.to - at - 0) (drop at s)))
  here = rw (sub-zero (p.to - at), ← part-starts 59 s at p h l) w

  pub segments-stop : (m : Refusal) (q : Result Counts Refusal) → r ≡ Err m → IsErrAnd q (λ (y : Refusal). y ≡ m) → Collects (on carbon all_as) e q ys hs zs whole
  segments-stop = turn-stop segment_at 59 e c whole (drop at s) (p.to - at) o place r ys hs zs here

  pub segments-last : (q : Counts) → r ≡ Ok q → p.to ≡ length s → Collects (on carbon all_as) e (Ok q) ys hs zs whole
  segments-last q k n = turn_last segment_at 59 e c whole (drop at s) (p.to - at) o place r ys hs zs here q k (omega (arith, length-drop at s))

  pub segments-more : (q : Counts) → r ≡ Ok q → (p.to ≡ length s → ⊥) → Onward (on carbon all_as) e (gather q ys hs zs) whole (each segment_at (parts_at 59 (drop p.next s)))
  segments-more q k n =
      let t = drop at s in
      let m = p.to - at + 1 in
      let j : at + m ≡ p.next = omega (arith, part-next 59 s at p h, part-order 59 s at p h, part-starts 59 s at p h l) in
      let v : take (length t - m) (drop m t) ≡ drop p.next s = to_end m t ∙ drop-drop m at s ∙ ap (λ (i : ℕ). drop i s) j in
      rw (← v)
      (turn_more segment_at 59 e c whole t (p.to - at) o place r ys hs zs here q k
      (λ x. n (omega (arith, length-drop at s, part-order 59 s at p h, part-starts 59 s at p h l))))

module _ (s : List ℕ) (at : ℕ) (p : Part) (l : at ≤ length s) (h : p ≡ part_from 59 s at) (n : p.to ≡ length s → ⊥) where
  -- behind a segment that is not the last the next one starts within the bytes, and further on
  pub next-within : p.next ≤ length s
  next-within = omega (arith, part-next 59 s at p h, part-within 59 s at p h, n)

  pub next-further : length s - p.next < length s - at
  next-further = omega (arith, part-next 59 s at p h, part-within 59 s at p h, part-order 59 s at p h, part-starts 59 s at p h l, n)

-- ---- no segment

pub segments-none : (d : Chain) → segments [] d ≡ Read d
unfolding segments each parts_at segment_at segment_text before_closing after_opening trimmed ending first_byte
segments-none d = refl
