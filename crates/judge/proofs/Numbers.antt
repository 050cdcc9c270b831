-- A token is refused by 31 or by 11, and by no other number. By a predicate on the answer of each definition, from the pieces of a segment to
-- the token.
-- Assumes nothing.
use Prim.Native.Nat.{ℕ, ◌+◌}
use native.Mathlib.Omega.{arith}
use mathlib.Core.Path.{◌≡◌}
use mathlib.Core.Bool.{Bool, true, false, cond}
use mathlib.Core.List.{List, [], ◌∷◌}
use lib.ListN.{length, take, drop}
use lib.Dec.{eqb, ltb}
use Rattle.scanner.specs.scan.Part.{part, trimmed, index_of, starts_with, same_bytes}
use Rattle.scanner.specs.scan.Number.{digit_run, digits_up_to, number_up_to, number_limit}
use Rattle.std.specs.Prelude.{Option, Some, None}
use Rattle.chain_record.specs.declared.plain.ChainPrefix.{ChainPrefix}
use Rattle.chain_record.specs.declared.plain.DbPos.{DbPos}
use Rattle.chain_record.specs.declared.plain.Ring.{Ring}
use Rattle.chain_record.specs.plain.Chain.{Chain, Outcome, Read, Refused, and_then, counts_of, max_carbons, max_bonds, max_groups, max_rings}
use Rattle.token_syntax.specs.form.Parts.{parts_at, list_parts}
use Rattle.token_syntax.specs.form.Form.{segment_text, form_of, after_place, ends_in_parenthesis}
use Rattle.token_syntax.specs.form.Numbers.{trimmed_number, ring_count}
use Rattle.token_syntax.specs.declared.form.Form.{Form}
use Rattle.token_syntax.specs.declared.form.Form.TheVariants.{Ring as Form-as-Ring, Repeated as Form-as-Repeated, Listed as Form-as-Listed, Parts as Form-as-Parts}
use Rattle.token_head.specs.positions.Each.{each}
use Rattle.token_head.specs.positions.Positions.{position_of, with_position, bond_at, bond_list, inside, ring_bond_at, ring_bond_list}
use Rattle.token_features.specs.declared.features.Segment.{Segment}
use Rattle.token_features.specs.declared.features.Segment.TheVariants.{Cycle, Located, Repeated, Oxygens, Unreadable as Segment-as-Unreadable}
use Rattle.token_features.specs.declared.features.Feature.{Feature}
use Rattle.token_features.specs.declared.features.Feature.TheVariants.{Ring as Feature-as-Ring, Group as Feature-as-Group, Other as Feature-as-Other}
use Rattle.token_features.specs.features.Features.{ring_of, feature_of, listed_as, part_of, repeated_of}
use Rattle.token_segments.specs.ring.Ring.{value_or11, ring_or11, closed_or11, ring_list, ring_listed, ring_listed_or, ring_bonds, ring_sized, ring_segment}
use Rattle.token_segments.specs.segment.Segment.{unless_over, many_times, with_segment, listed_at, plain_list, listed_feature, listed_segment, part_at, comma_parts, by_form, modification, segment_at, segments}
use Rattle.token_head.specs.declared.opening.Branch.{Branch}
use Rattle.token_head.specs.declared.opening.Branch.TheVariants.{Straight, Iso, Anteiso}
use Rattle.token_head.specs.opening.Opening.{branched, start_chain, carbons_by, carbons_of}
use Rattle.token_reader.specs.token.Token.{missing_of, bare_oxygens, finished, rest_of, counted_list, listed_of, after_count, count_by, bonds_of, named_chain, empty_text, trimmed_of, all_printable, token_of}

-- what holds of 31 and of 11
module _ (P : ℕ → Type 0) (p31 : P 31) (p11 : P 11) where
  -- holds of the number of a refusal
  abbrev By : Outcome → Type 0
  By (Read d) = Unit {0}
  By (Refused n) = P n

  by-then : (o : Outcome) (f : Chain → Outcome) → By o → ((d : Chain) → By (f d)) → By (and_then o f)
  by-then (Read d) f h g = g d
  by-then (Refused n) f h g = h

  by-either : (b : Bool) (x y : Outcome) → By x → By y → By (cond b x y)
  by-either true x y h k = h
  by-either false x y h k = k

  by-each : (f : List ℕ → Chain → Outcome) → ((s : List ℕ) (d : Chain) → By (f s d)) → (ss : List (List ℕ)) (d : Chain) → By (each f ss d)
  unfolding each
  by-each f g [] d = tt
  by-each f g (s ∷ ss) d = by-then (f s d) (each f ss) (g s d) (λ e. by-each f g ss e)

  by_value : (v : Option ℕ) (f : ℕ → Outcome) → ((n : ℕ) → By (f n)) → By (value_or11 v f)
  by_value (Some n) f g = g n
  by_value None f g = p11

  by-closed : (f : List ℕ → Chain → Outcome) (s : List ℕ) (d : Chain) → ((t : List ℕ) → By (f t d)) → By (closed_or11 f s d)
  unfolding closed_or11
  by-closed f s d g = by-either (ends_in_parenthesis s) _ _ (g _) p11

  -- ---- the lists of double bonds

  by-bonds : (s : List ℕ) (d : Chain) → By (bond_list s d)
  unfolding bond_list bond_at
  by-bonds s d = by-each bond_at (λ t e. go (position_of t) e) (list_parts s) d
    where
      go : (p : Option DbPos) (e : Chain) → By (with_position p e)
      go (Some b) e = tt
      go None e = p11

  by-ring-bonds : (start end : ℕ) (s : List ℕ) (d : Chain) → By (ring_bond_list start end s d)
  unfolding ring_bond_list ring_bond_at
  by-ring-bonds start end s d = by-each (ring_bond_at start end) (λ t e. go (position_of t) e) (list_parts s) d
    where
      go : (p : Option DbPos) (e : Chain) → By (inside start end p e)
      go (Some b) e = by-either (ltb b.pos start) _ _ p11 (by-either (ltb b.pos end) _ _ tt p11)
      go None e = p11

  -- ---- a segment

  by-added : (g : Segment) (d : Chain) → By (with_segment g d)
  unfolding many_times
  by-added (Cycle r) d = tt
  by-added (Located g) d = tt
  by-added (Repeated row n) d = go (ltb max_groups (length d.groups + n))
    where
      go : (b : Bool) → By (unless_over b n (record { pos = 0; row = row }) d)
      go true = p31
      go false = tt
  by-added (Oxygens n) d = tt
  by-added Segment-as-Unreadable d = p11

  by-ring : (s : List ℕ) (dash cy : ℕ) (d : Chain) → By (ring_segment s dash cy d)
  unfolding ring_segment ring_sized ring_bonds ring_listed ring_list
  by-ring s dash cy d =
      by_value (trimmed_number (take dash s)) _
      (λ start. by_value (trimmed_number (part (dash + 1) cy s)) _
      (λ end. by_value (trimmed_number (take (index_of 58 (drop (cy + 2) s)) (drop (cy + 2) s))) _
      (λ size. ringed (ring_of start end size d.carbon) (after_place (index_of 58 (drop (cy + 2) s)) (drop (cy + 2) s)))))
    where
      listed : (b : Bool) (r : Ring) (n : ℕ) (t : List ℕ) → By (ring_listed_or b r n t d)
      listed true r n t = tt
      listed false r n t =
          by-closed (ring_list r n) t d
          (λ u. by-either (ltb n (length (list_parts u))) _ _ p11 (by-then (ring_bond_list r.start r.end u d) _ (by-ring-bonds r.start r.end u d) (λ e. tt)))

      ringed : (g : Segment) (t : List ℕ) → By (ring_or11 g (λ r. ring_bonds r t d))
      ringed (Cycle r) t = by_value (ring_count (take (index_of 40 t) t)) _ (λ n. listed (eqb (index_of 40 t) (length t)) r n (after_place (index_of 40 t) t))
      ringed (Located g) t = p11
      ringed (Repeated row n) t = p11
      ringed (Oxygens n) t = p11
      ringed Segment-as-Unreadable t = p11

  by-listed : (f : Feature) (s : List ℕ) (d : Chain) → By (listed_feature f s d)
  unfolding plain_list listed_at
  by-listed f s d = go f
    where
      all : (f : Feature) → By (plain_list f s d)
      all f = by-each (listed_at f) (λ t e. by-added (listed_as f t e.carbon) e) (list_parts s) d

      go : (f : Feature) → By (listed_feature f s d)
      go (Feature-as-Ring b) = all (Feature-as-Ring b)
      go (Feature-as-Group row) = all (Feature-as-Group row)
      go Feature-as-Other = p11

  by-modification : (s : List ℕ) (d : Chain) → By (modification s d)
  unfolding modification listed_segment comma_parts part_at
  by-modification s d = go (form_of s)
    where
      go : (f : Form) → By (by_form f s d)
      go (Form-as-Ring dash cy) = by-ring s dash cy d
      go Form-as-Repeated = by-added (repeated_of (after_place 0 s)) d
      go (Form-as-Listed n) = by-closed (listed_feature (feature_of (take n s))) (after_place n s) d (λ t. by-listed (feature_of (take n s)) t d)
      go Form-as-Parts = by-each part_at (λ t e. by-added (part_of t e.carbon) e) (parts_at 44 s) d

  by-counts : (d : Chain) → By (counts_of d)
  unfolding counts_of
  by-counts d =
      by-either (ltb max_bonds (length d.bonds)) _ _ p31
      (by-either (ltb max_groups (length d.groups)) _ _ p31 (by-either (ltb max_rings (length d.rings)) _ _ p31 tt))

  by-segments : (s : List ℕ) (d : Chain) → By (segments s d)
  unfolding segments segment_at
  by-segments s d =
      by-each segment_at
      (λ t e. by-either (eqb (length (segment_text t)) 0) _ _ tt (by-then (modification (segment_text t) e) counts_of (by-modification (segment_text t) e) (λ q. by-counts q)))
      (parts_at 59 s) d

  -- ---- the token

  by-rest : (m : Option ℕ) (s : List ℕ) (d : Chain) → By (rest_of m s d)
  unfolding rest_of
  by-rest m s d = by-then (segments s d) (finished m) (by-segments s d) (λ e. go m e)
    where
      go : (m : Option ℕ) (e : Chain) → By (finished m e)
      go None e = p11
      go (Some n) e = by-either (bare_oxygens e) _ _ p11 tt

  by-list : (s : List ℕ) (d : Chain) → By (counted_list s d)
  unfolding counted_list
  by-list s d = by-then (bond_list s d) counts_of (by-bonds s d) (λ e. by-counts e)

  by-after-list : (n : ℕ) (s : List ℕ) (d : Chain) → By (listed_of n s d)
  unfolding listed_of
  by-after-list n s d =
      by-either (eqb (index_of 41 s) (length s)) _ _ p11
      (by-then (counted_list (take (index_of 41 s) s) d) (λ e. rest_of (missing_of d.carbon e.bonds n) (drop (index_of 41 s + 1) s) e) (by-list (take (index_of 41 s) s) d)
      (λ e. by-rest (missing_of d.carbon e.bonds n) (drop (index_of 41 s + 1) s) e))

  by_count : (v : Option ℕ) (s : List ℕ) (d : Chain) → By (count_by v s d)
  unfolding after_count
  by_count None s d = p11
  by_count (Some n) s d = by-either (starts_with (40 ∷ []) s) _ _ (by-after-list n (drop 1 s) d) (by-rest (missing_of d.carbon d.bonds n) s d)

  by-start : (p : ChainPrefix) (b : Branch) (w : ℕ) → By (start_chain p b w)
  unfolding branched
  by-start p Straight w = tt
  by-start p Iso w = by-either (ltb w (1 + 3)) _ _ p11 tt
  by-start p Anteiso w = by-either (ltb w (2 + 3)) _ _ p11 tt

  by-carbons : (p : ChainPrefix) (b : Branch) (v : Option ℕ) → By (carbons_by p b v)
  by-carbons p b (Some n) = by-either (ltb max_carbons n) _ _ p31 (by-start p b n)
  by-carbons p b None = p11

  by-named : (p : ChainPrefix) (b : Branch) (s : List ℕ) → By (named_chain p b s)
  unfolding named_chain carbons_of bonds_of
  by-named p b s =
      by-either (eqb (index_of 58 s) (length s)) _ _ p11
      (by-then (carbons_by p b (number_up_to number_limit (take (index_of 58 s) s))) (bonds_of (drop (index_of 58 s + 1) s)) (by-carbons p b (number_up_to number_limit (take (index_of 58 s) s)))
      (λ d. by_count (digits_up_to number_limit (take (digit_run (drop (index_of 58 s + 1) s)) (drop (index_of 58 s + 1) s))) _ d))

  by_token : (s : List ℕ) → By (token_of s)
  unfolding token_of trimmed_of
  by_token s =
      by-either (ltb 255 (length s)) _ _ p31
      (by-either (all_printable s) _ _ (by-either (same_bytes (trimmed s) empty_text) _ _ tt (by-named _ _ _)) p31)

  -- a token is refused by 31 or by 11
  pub token-number : (s : List ℕ) (n : ℕ) → token_of s ≡ Refused n → P n
  token-number s n e = go (token_of s) (by_token s) e
    where
      go : (o : Outcome) → By o → o ≡ Refused n → P n
      go (Read d) h f = let z : ◌≡◌ {A = ℕ} 0 1 = cc in absurd (omega arith)
      go (Refused m) h f = let z : m ≡ n = cc in rw z at h
