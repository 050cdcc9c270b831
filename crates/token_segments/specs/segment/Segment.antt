-- The segments of a token, read into a chain. 01, Token reader, from "A segment is trimmed" to "Anything else gives 11", and 31's "counts
-- after each bond list or segment read without 11". Bytes: `,` 44, `;` 59. Assumes nothing.
use Rattle.std.specs.Prelude.{ℕ, zero, suc, ◌+◌, List, Bool, true, false, cond, length, take, eqb, ltb}
use Rattle.token_syntax.specs.form.Parts.{parts_at, list_parts}
use Rattle.token_syntax.specs.form.Form.{segment_text, form_of, after_place}
use Rattle.token_syntax.specs.declared.form.Form.{Form}
use Rattle.token_syntax.specs.declared.form.Form.TheVariants.{Ring as Form-as-Ring, Repeated as Form-as-Repeated, Listed as Form-as-Listed, Parts as Form-as-Parts}
use Rattle.chain_record.specs.declared.plain.Mod.{Mod}
use Rattle.chain_record.specs.plain.Chain.{Chain, Outcome, Read, Refused, and_then, with_group, with_ring, with_oxygens, counts_of, max_groups, unreadable, over_limit}
use Rattle.token_head.specs.positions.Each.{each}
use Rattle.token_features.specs.features.Features.{feature_of, listed_as, part_of, repeated_of}
use Rattle.token_features.specs.declared.features.Segment.{Segment}
use Rattle.token_features.specs.declared.features.Segment.TheVariants.{Cycle, Located, Repeated, Oxygens, Unreadable}
use Rattle.token_features.specs.declared.features.Feature.{Feature}
use Rattle.token_features.specs.declared.features.Feature.TheVariants.{Ring as Feature-as-Ring, Group as Feature-as-Group, Other as Feature-as-Other}
use Rattle.token_segments.specs.ring.Ring.{closed_or11, ring_segment}

-- ---- what each answer adds to a chain

-- a group n times
unfoldable pub copies : ℕ → Mod → Chain → Chain
copies zero g d = d
copies (suc n) g d = copies n g (with_group g d)

abbrev pub unless_over : Bool → ℕ → Mod → Chain → Outcome
unless_over true n g d = Refused over_limit
unless_over false n g d = Read (copies n g d)

-- 01: "`(abbr)n`: n unlocated groups". The segment ends there, so the count after it (31) is the count so far and n: it is judged before
-- any copy is made, since n may be 4,294,967,295.
unfoldable pub many_times : ℕ → Mod → Chain → Outcome
many_times n g d = unless_over (ltb max_groups (length d.groups + n)) n g d

-- each case of the answer: a ring, a group or an oxygen count more, groups without a position (their position is 0), or 11
abbrev pub with_segment : Segment → Chain → Outcome
with_segment (Cycle r) d = Read (with_ring r d)
with_segment (Located g) d = Read (with_group g d)
with_segment (Repeated row n) d = many_times n (record { pos = 0; row = row }) d
with_segment (Oxygens n) d = Read (with_oxygens n d)
with_segment Unreadable d = Refused unreadable

-- ---- "`abbr(list)`: groups or alias rings there"

-- a feature at one position of the list
unfoldable pub listed_at : Feature → List ℕ → Chain → Outcome
listed_at f s d = with_segment (listed_as f s d.carbon) d

unfoldable pub plain_list : Feature → List ℕ → Chain → Outcome
plain_list f s = each (listed_at f) (list_parts s)

-- an abbreviation that names no feature is 11, even where its list is empty
abbrev pub listed_feature : Feature → List ℕ → Chain → Outcome
listed_feature (Feature-as-Ring b) s d = plain_list (Feature-as-Ring b) s d
listed_feature (Feature-as-Group row) s d = plain_list (Feature-as-Group row) s d
listed_feature Feature-as-Other s d = Refused unreadable

-- an abbreviation, and what follows its `(`
unfoldable pub listed_segment : List ℕ → List ℕ → Chain → Outcome
listed_segment abbr = closed_or11 (listed_feature (feature_of abbr))

-- ---- "split at commas"

unfoldable pub part_at : List ℕ → Chain → Outcome
part_at s d = with_segment (part_of s d.carbon) d

unfoldable pub comma_parts : List ℕ → Chain → Outcome
comma_parts s = each part_at (parts_at 44 s)

-- ---- a segment, and all of them

-- 01: "Tried in order"
abbrev pub by_form : Form → List ℕ → Chain → Outcome
by_form (Form-as-Ring dash cy) s d = ring_segment s dash cy d
by_form Form-as-Repeated s d = with_segment (repeated_of (after_place 0 s)) d
by_form (Form-as-Listed n) s d = listed_segment (take n s) (after_place n s) d
by_form Form-as-Parts s d = comma_parts s d

unfoldable pub modification : List ℕ → Chain → Outcome
modification s d = by_form (form_of s) s d

-- 01: "empty is skipped"; 31: "counts after each bond list or segment read without 11"
unfoldable pub segment_at : List ℕ → Chain → Outcome
segment_at s d = cond (eqb (length (segment_text s)) 0) (Read d) (and_then (modification (segment_text s) d) counts_of)

-- 01: "then segments split at `;`"
unfoldable pub segments : List ℕ → Chain → Outcome
segments s = each segment_at (parts_at 59 s)
