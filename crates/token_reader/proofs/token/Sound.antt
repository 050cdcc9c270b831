-- A chain that was read is sound: it is within the limits of 31, its groups are rows of the table, its rings end on it, and its carbons are
-- those written, less one after a branch word. By a predicate on the answer of each definition, from the pieces of a segment to the token.
-- Assumes nothing.
use Prim.Native.Nat.{ℕ, zero, suc, ◌+◌, ◌-◌, ◌≤◌, ◌<◌}
use native.Mathlib.Omega.{arith}
use mathlib.Core.Path.{◌≡◌, refl}
use mathlib.Core.Bool.{Bool, true, false, cond}
use mathlib.Core.List.{List, [], ◌∷◌, ◌++◌}
use lib.ListN.{length, take, drop}
use lib.Dec.{eqb, ltb}
use borrow.Author.Tests.{ltb-false}
use Rattle.scanner.specs.scan.Part.{part, trimmed, index_of, starts_with, same_bytes}
use Rattle.scanner.specs.scan.Number.{digit_run, digits_up_to, number_up_to, number_limit}
use Rattle.std.specs.Prelude.{Option, Some, None}
use Rattle.group_table.specs.groups.Groups.{methyl, substituent_of, alias_ring_size}
use Rattle.group_table.proofs.groups.Laws.{substituent-row}
use Rattle.chain_record.specs.declared.plain.Bridge.{Bridge}
use Rattle.chain_record.specs.declared.plain.Bridge.TheVariants.{Epoxide, Carbocycle}
use Rattle.chain_record.specs.declared.plain.ChainPrefix.{ChainPrefix}
use Rattle.chain_record.specs.declared.plain.ChainPrefix.TheVariants.{Acyl}
use Rattle.chain_record.specs.declared.plain.DbPos.{DbPos}
use Rattle.chain_record.specs.declared.plain.Mod.{Mod}
use Rattle.chain_record.specs.declared.plain.Ring.{Ring}
use Rattle.chain_record.specs.plain.Chain.{Chain, Outcome, Read, Refused, and_then, no_features, with_bond, with_group, with_ring, with_oxygens, with_unlocated, counts_of, Within, max_carbons, max_bonds, max_groups, max_rings, unreadable, over_limit}
use Rattle.chain_record.proofs.plain.Sound.{Every, Spans, RingSound, Reduced, Sound}
use Rattle.token_syntax.specs.form.Parts.{parts_at, list_parts}
use Rattle.token_syntax.specs.form.Form.{segment_text, form_of, after_place, ends_in_parenthesis}
use Rattle.token_syntax.specs.form.Numbers.{trimmed_number, leading_position, number_or_one, ring_count}
use Rattle.token_syntax.specs.declared.form.Form.{Form}
use Rattle.token_syntax.specs.declared.form.Form.TheVariants.{Ring as Form-as-Ring, Repeated as Form-as-Repeated, Listed as Form-as-Listed, Parts as Form-as-Parts}
use Rattle.token_head.specs.positions.Each.{each}
use Rattle.token_head.specs.positions.Positions.{position_of, with_position, bond_at, bond_list, inside, ring_bond_at, ring_bond_list}
use Rattle.token_features.specs.declared.features.Segment.{Segment}
use Rattle.token_features.specs.declared.features.Segment.TheVariants.{Cycle, Located, Repeated, Oxygens, Unreadable as Segment-as-Unreadable}
use Rattle.token_features.specs.declared.features.Feature.{Feature}
use Rattle.token_features.specs.declared.features.Feature.TheVariants.{Ring as Feature-as-Ring, Group as Feature-as-Group, Other as Feature-as-Other}
use Rattle.token_features.specs.features.Features.{ring_of, ring_at, span_of, named, feature_of, placed_by, listed_as, oxygens_by, oxygen_count, oxygens_in, feature_or, item_at, item_by, part_of, times_by, repeated_of}
use Rattle.token_segments.specs.ring.Ring.{value_or11, ring_or11, closed_or11, ring_list, ring_listed, ring_listed_or, ring_bonds, ring_sized, ring_segment}
use Rattle.token_segments.specs.segment.Segment.{copies, unless_over, many_times, with_segment, listed_at, plain_list, listed_feature, listed_segment, part_at, comma_parts, by_form, modification, segment_at, segments}
use Rattle.token_head.specs.declared.opening.Branch.{Branch}
use Rattle.token_head.specs.declared.opening.Branch.TheVariants.{Straight, Iso, Anteiso}
use Rattle.token_head.specs.opening.Opening.{branched, start_chain, carbons_by, carbons_of}
use Rattle.std.specs.Prelude.{Option, Some, None}
use Rattle.token_reader.specs.token.Token.{missing_of, bare_oxygens, finished, rest_of, counted_list, listed_of, after_count, count_by, bonds_of, named_chain, empty_text, trimmed_of, all_printable, token_of}

-- ---- answers

-- what was read has a property
abbrev Ok : (Chain → Type 0) → Outcome → Type 0
Ok P (Read d) = P d
Ok P (Refused n) = Unit {0}

ok-then : {P : Chain → Type 0} (Q : Chain → Type 0) (o : Outcome) (f : Chain → Outcome) → Ok P o → ((d : Chain) → P d → Ok Q (f d)) → Ok Q (and_then o f)
ok-then Q (Read d) f k g = g d k
ok-then Q (Refused n) f k g = tt

ok-either : (P : Chain → Type 0) (b : Bool) (x y : Outcome) → Ok P x → Ok P y → Ok P (cond b x y)
ok-either P true x y h k = h
ok-either P false x y h k = k

ok-each : (P : Chain → Type 0) (f : List ℕ → Chain → Outcome) → ((s : List ℕ) (d : Chain) → P d → Ok P (f s d)) → (ss : List (List ℕ)) (d : Chain) → P d → Ok P (each f ss d)
unfolding each
ok-each P f g [] d k = k
ok-each P f g (s ∷ ss) d k = ok-then P (f s d) (each f ss) (g s d k) (λ e h. ok-each P f g ss e h)

ok-value : (P : Chain → Type 0) (v : Option ℕ) (f : ℕ → Outcome) → ((n : ℕ) → Ok P (f n)) → Ok P (value_or11 v f)
ok-value P (Some n) f g = g n
ok-value P None f g = tt

ok_read : (P : Chain → Type 0) (o : Outcome) (d : Chain) → Ok P o → o ≡ Read d → P d
ok_read P (Read e) d k h = let z : e ≡ d = cc in rw z at k
ok_read P (Refused n) d k h = let z : ◌≡◌ {A = ℕ} 0 1 = cc in absurd (omega arith)

-- ---- a chain of c carbons, its counts aside

record Apt (c : ℕ) (d : Chain) : Type 0 where
  carbon : d.carbon ≡ c
  few : d.written ≤ max_carbons
  rows : Every (λ (g : Mod). g.row < 17) d.groups
  rings : Every (RingSound c) d.rings
  reduced : Reduced d.branched d.written c

every_one : {A : Type 0} (P : A → Type 0) (l : List A) (x : A) → Every P l → P x → Every P (l ++ (x ∷ []))
every_one P [] x h k = (k, tt)
every_one P (a ∷ l) x h k = (h.0, every_one P l x h.1 k)

module _ (c : ℕ) (d : Chain) (k : Apt c d) where
  apt-bond : (b : DbPos) → Apt c (with_bond b d)
  unfolding with_bond
  apt-bond b = record { carbon = k.carbon; few = k.few; rows = k.rows; rings = k.rings; reduced = k.reduced }

  apt-group : (g : Mod) → g.row < 17 → Apt c (with_group g d)
  unfolding with_group
  apt-group g h = record { carbon = k.carbon; few = k.few; rows = every_one (λ (g : Mod). g.row < 17) d.groups g k.rows h; rings = k.rings; reduced = k.reduced }

  apt-ring : (r : Ring) → RingSound c r → Apt c (with_ring r d)
  unfolding with_ring
  apt-ring r h = record { carbon = k.carbon; few = k.few; rows = k.rows; rings = every_one (RingSound c) d.rings r k.rings h; reduced = k.reduced }

  apt-oxygens : (n : ℕ) → Apt c (with_oxygens n d)
  unfolding with_oxygens
  apt-oxygens n = record { carbon = k.carbon; few = k.few; rows = k.rows; rings = k.rings; reduced = k.reduced }

apt-copies : (c n : ℕ) (g : Mod) (d : Chain) → g.row < 17 → Apt c d → Apt c (copies n g d)
unfolding copies
apt-copies c zero g d h k = k
apt-copies c (suc n) g d h k = apt-copies c n g (with_group g d) h (apt-group c d k g h)

-- ---- what a piece of a segment says

abbrev Fit : ℕ → Segment → Type 0
Fit c (Cycle r) = RingSound c r
Fit c (Located g) = g.row < 17
Fit c (Repeated row n) = row < 17
Fit c (Oxygens n) = Unit {0}
Fit c Segment-as-Unreadable = Unit {0}

abbrev Named : Feature → Type 0
Named (Feature-as-Ring b) = Unit {0}
Named (Feature-as-Group row) = row < 17
Named Feature-as-Other = Unit {0}

fit-either : (c : ℕ) (b : Bool) (x y : Segment) → Fit c x → Fit c y → Fit c (cond b x y)
fit-either c true x y h k = h
fit-either c false x y h k = k

fit-added : (c : ℕ) (g : Segment) (d : Chain) → Fit c g → Apt c d → Ok (Apt c) (with_segment g d)
unfolding many_times
fit-added c (Cycle r) d h k = apt-ring c d k r h
fit-added c (Located g) d h k = apt-group c d k g h
fit-added c (Repeated row n) d h k = go (ltb max_groups (length d.groups + n))
  where
    go : (b : Bool) → Ok (Apt c) (unless_over b n (record { pos = 0; row = row }) d)
    go true = tt
    go false = apt-copies c n (record { pos = 0; row = row }) d h k
fit-added c (Oxygens n) d h k = apt-oxygens c d k n
fit-added c Segment-as-Unreadable d h k = tt

-- an alias ring ends on the chain
ring-at-fit : (start : ℕ) (b : Bridge) (c : ℕ) → Fit c (ring_at start b c)
unfolding ring_at
ring-at-fit start b c = fit-either c (eqb start 0) _ _ tt (go (ltb c (start + span_of b - 1)) refl)
  where
    spans : (b : Bridge) → Spans b start (start + span_of b - 1)
    spans Epoxide = omega arith
    spans Carbocycle = omega arith

    go : (x : Bool) → ltb c (start + span_of b - 1) ≡ x → Fit c (cond x Segment-as-Unreadable (Cycle (record { start = start; end = start + span_of b - 1; bridge = b })))
    go true e = tt
    go false e = record { spans = spans b; ends = ltb-false c (start + span_of b - 1) e }

-- a ring with its size
ring-of-fit : (start end size c : ℕ) → Fit c (ring_of start end size c)
unfolding ring_of
ring-of-fit start end size c = go (ltb end start) (ltb c end) (eqb (end - start + 1) size) refl refl
  where
    go : (x y z : Bool) → ltb end start ≡ x → ltb c end ≡ y
        → Fit c (cond x Segment-as-Unreadable (cond y Segment-as-Unreadable (cond z (Cycle (record { start = start; end = end; bridge = Carbocycle })) Segment-as-Unreadable)))
    go true y z e f = tt
    go false true z e f = tt
    go false false true e f = record { spans = ltb-false end start e; ends = ltb-false c end f }
    go false false false e f = tt

-- a group's row is one of the table
feature-named : (abbr : List ℕ) → Named (feature_of abbr)
unfolding feature_of
feature-named abbr = go (alias_ring_size abbr) (substituent_of abbr) refl
  where
    go : (r : Option ℕ) (f : Option ℕ) → substituent_of abbr ≡ f → Named (named r f)
    go (Some n) f e = tt
    go None (Some row) e = substituent-row abbr row e
    go None None e = tt

listed-fit : (f : Feature) (s : List ℕ) (c : ℕ) → Named f → Fit c (listed_as f s c)
unfolding listed_as
listed-fit f s c h = go f (trimmed_number s) h
  where
    go : (f : Feature) (v : Option ℕ) → Named f → Fit c (placed_by f v c)
    go (Feature-as-Ring b) (Some n) h = ring-at-fit n b c
    go (Feature-as-Group row) (Some n) h = h
    go Feature-as-Other (Some n) h = tt
    go f None h = tt

oxygens-fit : (s : List ℕ) (c : ℕ) → Fit c (oxygens_in s)
unfolding oxygens_in oxygen_count
oxygens-fit [] c = tt
oxygens-fit (x ∷ s) c = fit-either c (eqb x 79) _ _ (go (number_or_one s)) tt
  where
    go : (v : Option ℕ) → Fit c (oxygens_by v)
    go (Some n) = tt
    go None = tt

part-fit : (s : List ℕ) (c : ℕ) → Fit c (part_of s c)
unfolding part_of item_at
part-fit s c = fit-either c (eqb (digit_run s) (length s)) _ _ tt (go (leading_position (take (digit_run s) s)))
  where
    abbr : List ℕ
    abbr = drop (digit_run s) s

    item : (f : Feature) (n : ℕ) → Named f → Fit c (feature_or f (oxygens_in abbr) n c)
    item (Feature-as-Ring b) n h = ring-at-fit n b c
    item (Feature-as-Group row) n h = h
    item Feature-as-Other n h = oxygens-fit abbr c

    go : (v : Option ℕ) → Fit c (item_by abbr v c)
    go (Some n) = item (feature_of abbr) n (feature-named abbr)
    go None = tt

repeated-fit : (s : List ℕ) (c : ℕ) → Fit c (repeated_of s)
unfolding repeated_of
repeated-fit s c = fit-either c (eqb (index_of 41 s) (length s)) _ _ tt (go (substituent_of (take (index_of 41 s) s)) (number_or_one (after_place (index_of 41 s) s)) refl)
  where
    go : (f : Option ℕ) (v : Option ℕ) → substituent_of (take (index_of 41 s) s) ≡ f → Fit c (times_by f v)
    go (Some row) (Some n) e = substituent-row (take (index_of 41 s) s) row e
    go (Some row) None e = tt
    go None v e = tt

-- ---- the lists of double bonds

bonds-apt : (c : ℕ) (s : List ℕ) (d : Chain) → Apt c d → Ok (Apt c) (bond_list s d)
unfolding bond_list bond_at
bonds-apt c s d k = ok-each (Apt c) bond_at (λ t e h. go (position_of t) e h) (list_parts s) d k
  where
    go : (p : Option DbPos) (e : Chain) → Apt c e → Ok (Apt c) (with_position p e)
    go (Some b) e h = apt-bond c e h b
    go None e h = tt

ring-bonds-apt : (c start end : ℕ) (s : List ℕ) (d : Chain) → Apt c d → Ok (Apt c) (ring_bond_list start end s d)
unfolding ring_bond_list ring_bond_at
ring-bonds-apt c start end s d k = ok-each (Apt c) (ring_bond_at start end) (λ t e h. go (position_of t) e h) (list_parts s) d k
  where
    go : (p : Option DbPos) (e : Chain) → Apt c e → Ok (Apt c) (inside start end p e)
    go (Some b) e h = ok-either (Apt c) (ltb b.pos start) _ _ tt (ok-either (Apt c) (ltb b.pos end) _ _ (apt-bond c e h b) tt)
    go None e h = tt

-- ---- a segment

closed-apt : (c : ℕ) (f : List ℕ → Chain → Outcome) (s : List ℕ) (d : Chain) → ((t : List ℕ) → Ok (Apt c) (f t d)) → Ok (Apt c) (closed_or11 f s d)
unfolding closed_or11
closed-apt c f s d g = ok-either (Apt c) (ends_in_parenthesis s) _ _ (g _) tt

module _ (c : ℕ) (d : Chain) (k : Apt c d) where
  ring-listed-apt : (r : Ring) (n : ℕ) (s : List ℕ) → RingSound c r → Ok (Apt c) (ring_listed r n s d)
  unfolding ring_listed ring_list
  ring-listed-apt r n s h =
      closed-apt c (ring_list r n) s d
      (λ t. ok-either (Apt c) (ltb n (length (list_parts t))) _ _ tt (ok-then (Apt c) (ring_bond_list r.start r.end t d) (λ e. Read (with_ring r e)) (ring-bonds-apt c r.start r.end t d k) (λ e g. apt-ring c e g r h)))

  ring-apt : (s : List ℕ) (dash cy : ℕ) → Ok (Apt c) (ring_segment s dash cy d)
  unfolding ring_segment ring_sized ring_bonds
  ring-apt s dash cy =
      ok-value (Apt c) (trimmed_number (take dash s)) _
      (λ start. ok-value (Apt c) (trimmed_number (part (dash + 1) cy s)) _
      (λ end. ok-value (Apt c) (trimmed_number (take (index_of 58 (drop (cy + 2) s)) (drop (cy + 2) s))) _
      (λ size. ringed (ring_of start end size d.carbon) (after_place (index_of 58 (drop (cy + 2) s)) (drop (cy + 2) s)) (rw k.carbon (ring-of-fit start end size c)))))
    where
      listed : (b : Bool) (r : Ring) (n : ℕ) (t : List ℕ) → RingSound c r → Ok (Apt c) (ring_listed_or b r n t d)
      listed true r n t h = apt-ring c d k r h
      listed false r n t h = ring-listed-apt r n t h

      ringed : (g : Segment) (t : List ℕ) → Fit c g → Ok (Apt c) (ring_or11 g (λ r. ring_bonds r t d))
      ringed (Cycle r) t h = ok-value (Apt c) (ring_count (take (index_of 40 t) t)) _ (λ n. listed (eqb (index_of 40 t) (length t)) r n (after_place (index_of 40 t) t) h)
      ringed (Located g) t h = tt
      ringed (Repeated row n) t h = tt
      ringed (Oxygens n) t h = tt
      ringed Segment-as-Unreadable t h = tt

  listed-apt : (f : Feature) (s : List ℕ) → Named f → Ok (Apt c) (listed_feature f s d)
  unfolding plain_list listed_at
  listed-apt f s h = go f h
    where
      all : (f : Feature) → Named f → Ok (Apt c) (plain_list f s d)
      all f h = ok-each (Apt c) (listed_at f) (λ t e g. fit-added c (listed_as f t e.carbon) e (rw g.carbon (listed-fit f t c h)) g) (list_parts s) d k

      go : (f : Feature) → Named f → Ok (Apt c) (listed_feature f s d)
      go (Feature-as-Ring b) h = all (Feature-as-Ring b) h
      go (Feature-as-Group row) h = all (Feature-as-Group row) h
      go Feature-as-Other h = tt

  parts-apt : (s : List ℕ) → Ok (Apt c) (comma_parts s d)
  unfolding comma_parts part_at
  parts-apt s = ok-each (Apt c) part_at (λ t e g. fit-added c (part_of t e.carbon) e (rw g.carbon (part-fit t c)) g) (parts_at 44 s) d k

  modification-apt : (s : List ℕ) → Ok (Apt c) (modification s d)
  unfolding modification listed_segment
  modification-apt s = go (form_of s)
    where
      go : (f : Form) → Ok (Apt c) (by_form f s d)
      go (Form-as-Ring dash cy) = ring-apt s dash cy
      go Form-as-Repeated = fit-added c (repeated_of (after_place 0 s)) d (repeated-fit (after_place 0 s) c) k
      go (Form-as-Listed n) = closed-apt c (listed_feature (feature_of (take n s))) (after_place n s) d (λ t. listed-apt (feature_of (take n s)) t (feature-named (take n s)))
      go Form-as-Parts = parts-apt s

-- ---- with the counts

record Whole (c : ℕ) (d : Chain) : Type 0 where
  apt : Apt c d
  within : Within d

counts_whole : (c : ℕ) (d : Chain) → Apt c d → Ok (Whole c) (counts_of d)
unfolding counts_of
counts_whole c d k = go (ltb max_bonds (length d.bonds)) (ltb max_groups (length d.groups)) (ltb max_rings (length d.rings)) refl refl refl
  where
    go : (x y z : Bool) → ltb max_bonds (length d.bonds) ≡ x → ltb max_groups (length d.groups) ≡ y → ltb max_rings (length d.rings) ≡ z
        → Ok (Whole c) (cond x (Refused over_limit) (cond y (Refused over_limit) (cond z (Refused over_limit) (Read d))))
    go true y z e f g = tt
    go false true z e f g = tt
    go false false true e f g = tt
    go false false false e f g = record { apt = k; within = record { carbons = k.few; bonds = ltb-false _ _ e; groups = ltb-false _ _ f; rings = ltb-false _ _ g } }

segments-whole : (c : ℕ) (s : List ℕ) (d : Chain) → Whole c d → Ok (Whole c) (segments s d)
unfolding segments segment_at
segments-whole c s d k =
    ok-each (Whole c) segment_at
    (λ t e h. ok-either (Whole c) (eqb (length (segment_text t)) 0) _ _ h (ok-then (Whole c) (modification (segment_text t) e) counts_of (modification-apt c e h.apt (segment_text t)) (λ q g. counts_whole c q g)))
    (parts_at 59 s) d k

rest-whole : (c : ℕ) (m : Option ℕ) (s : List ℕ) (d : Chain) → Whole c d → Ok (Whole c) (rest_of m s d)
unfolding rest_of with_unlocated
rest-whole c m s d k = ok-then (Whole c) (segments s d) (finished m) (segments-whole c s d k) (λ e h. go m e h)
  where
    go : (m : Option ℕ) (e : Chain) → Whole c e → Ok (Whole c) (finished m e)
    go None e h = tt
    go (Some n) e h =
        ok-either (Whole c) (bare_oxygens e) _ _ tt
        (record { apt = record { carbon = h.apt.carbon; few = h.apt.few; rows = h.apt.rows; rings = h.apt.rings; reduced = h.apt.reduced }; within = record { carbons = h.within.carbons; bonds = h.within.bonds; groups = h.within.groups; rings = h.within.rings } })

bonds-whole : (c : ℕ) (s : List ℕ) (d : Chain) → Whole c d → Ok (Whole c) (bonds_of s d)
unfolding bonds_of after_count listed_of counted_list
bonds-whole c s d k = go (digits_up_to number_limit (take (digit_run s) s))
  where
    u : List ℕ
    u = drop (digit_run s) s

    t : List ℕ
    t = drop 1 u

    list : Ok (Whole c) (counted_list (take (index_of 41 t) t) d)
    list = ok-then (Whole c) (bond_list (take (index_of 41 t) t) d) counts_of (bonds-apt c (take (index_of 41 t) t) d k.apt) (λ e h. counts_whole c e h)

    go : (v : Option ℕ) → Ok (Whole c) (count_by v u d)
    go None = tt
    go (Some n) =
        ok-either (Whole c) (starts_with (40 ∷ []) u) _ _
        (ok-either (Whole c) (eqb (index_of 41 t) (length t)) _ _ tt
        (ok-then (Whole c) (counted_list (take (index_of 41 t) t) d) _ list (λ e h. rest-whole c (missing_of d.carbon e.bonds n) (drop (index_of 41 t + 1) t) e h)))
        (rest-whole c (missing_of d.carbon d.bonds n) u d k)

-- ---- the token

abbrev Complete : Chain → Type 0
Complete d = Whole d.carbon d

bare-complete : (p : ChainPrefix) (w c : ℕ) (b : Bool) → w ≤ 255 → Reduced b w c → Complete (no_features p w c b)
bare-complete p w c b h r =
    record {
      apt = record { carbon = refl; few = h; rows = tt; rings = tt; reduced = r };
      within = record { carbons = h; bonds = omega arith; groups = omega arith; rings = omega arith };
    }

start-complete : (p : ChainPrefix) (b : Branch) (w : ℕ) → w ≤ 255 → Ok Complete (start_chain p b w)
unfolding branched with_group
start-complete p b w h = go b
  where
    methylated : (o : ℕ) → Ok Complete (branched p o w)
    methylated o = test (ltb w (o + 3)) refl
      where
        test : (x : Bool) → ltb w (o + 3) ≡ x
            → Ok Complete (cond x (Refused unreadable) (Read (with_group (record { pos = w - 1 - o; row = methyl }) (no_features p w (w - 1) true))))
        test true e = tt
        test false e =
            record {
              apt = record { carbon = refl; few = h; rows = (omega arith, tt); rings = tt; reduced = omega (arith, ltb-false w (o + 3) e) };
              within = record { carbons = h; bonds = omega arith; groups = omega arith; rings = omega arith };
            }

    go : (b : Branch) → Ok Complete (start_chain p b w)
    go Straight = bare-complete p w w false h refl
    go Iso = methylated 1
    go Anteiso = methylated 2

carbons-complete : (p : ChainPrefix) (b : Branch) (t : List ℕ) → Ok Complete (carbons_of p b t)
unfolding carbons_of
carbons-complete p b t = go (number_up_to number_limit t)
  where
    test : (x : Bool) (n : ℕ) → ltb max_carbons n ≡ x → Ok Complete (cond x (Refused over_limit) (start_chain p b n))
    test true n e = tt
    test false n e = start-complete p b n (ltb-false max_carbons n e)

    go : (v : Option ℕ) → Ok Complete (carbons_by p b v)
    go (Some n) = test (ltb max_carbons n) n refl
    go None = tt

sound-of : (c : ℕ) (d : Chain) → Whole c d → Sound d
sound-of c d k =
    record {
      within = k.within;
      rows = k.apt.rows;
      rings = rw k.apt.carbon k.apt.rings;
      reduced = rw k.apt.carbon k.apt.reduced;
    }

named-sound : (p : ChainPrefix) (b : Branch) (s : List ℕ) → Ok Sound (named_chain p b s)
unfolding named_chain
named-sound p b s =
    ok-either Sound (eqb (index_of 58 s) (length s)) _ _ tt
    (ok-then Sound (carbons_of p b (take (index_of 58 s) s)) (bonds_of (drop (index_of 58 s + 1) s)) (carbons-complete p b (take (index_of 58 s) s))
    (λ d h. go d.carbon (bonds_of (drop (index_of 58 s + 1) s) d) (bonds-whole d.carbon (drop (index_of 58 s + 1) s) d h)))
  where
    go : (c : ℕ) (o : Outcome) → Ok (Whole c) o → Ok Sound o
    go c (Read d) h = sound-of c d h
    go c (Refused n) h = tt

token-ok : (s : List ℕ) → Ok Sound (token_of s)
unfolding token_of trimmed_of
token-ok s =
    ok-either Sound (ltb 255 (length s)) _ _ tt
    (ok-either Sound (all_printable s) _ _
    (ok-either Sound (same_bytes (trimmed s) empty_text) _ _ (sound-of 0 (no_features Acyl 0 0 false) (bare-complete Acyl 0 0 false (omega arith) refl)) (named-sound _ _ _))
    tt)

-- a chain that was read is sound
pub token-sound : (s : List ℕ) (d : Chain) → token_of s ≡ Read d → Sound d
token-sound s d e = ok_read Sound (token_of s) d (token-ok s) e
