-- What a piece of a segment says. 01, Token reader, the list after "A segment is trimmed, ..". Bytes: `)` 41, `O` 79. Assumes nothing.
use Rattle.std.specs.Prelude.{ℕ, ◌+◌, ◌-◌, ◌<◌, ◌≤◌, ◌≡◌, List, [], ◌∷◌, cond, length, take, drop, eqb, ltb, Option, Some, None}
use Rattle.scanner.specs.scan.Part.{index_of}
use Rattle.scanner.specs.scan.Number.{digit_run}
use Rattle.token_syntax.specs.form.Form.{after_place}
use Rattle.token_syntax.specs.form.Numbers.{trimmed_number, leading_position, number_or_one}
use Rattle.group_table.specs.groups.Groups.{substituent_of, alias_ring_size}
use Rattle.chain_record.specs.declared.plain.Bridge.{Bridge}
use Rattle.chain_record.specs.declared.plain.Bridge.TheVariants.{Epoxide, Carbocycle}
use Rattle.token_features.specs.declared.features.Segment.{Segment}
use Rattle.token_features.specs.declared.features.Segment.TheVariants.{Cycle, Located, Repeated, Oxygens, Unreadable}
use Rattle.token_features.specs.declared.features.Feature.{Feature}
use Rattle.token_features.specs.declared.features.Feature.TheVariants.{Ring, Group, Other}

-- 01: "ring start-end`cy`size .. 11 if end < start, end > c, size wrong"
unfoldable pub ring_of : ℕ → ℕ → ℕ → ℕ → Segment
ring_of start end size c =
    cond (ltb end start) Unreadable
    (cond (ltb c end) Unreadable
    (cond (eqb (end - start + 1) size) (Cycle (record { start = start; end = end; bridge = Carbocycle })) Unreadable))

-- 01: "Alias rings: Ep, ep, epox span 2 with an O bridge; cyc, cyclo span 3"
abbrev pub span_of : Bridge → ℕ
span_of Epoxide = 2
span_of Carbocycle = 3

-- r is what an alias ring spans
pub record Span (b : Bridge) (r : ℕ) : Type 0 where
  pub is : r ≡ span_of b
  pub some : 0 < r
  pub few : r ≤ 3

-- 01: "start 0 or end over c gives 11, in unbounded arithmetic"
unfoldable pub ring_at : ℕ → Bridge → ℕ → Segment
ring_at start b c =
    let end = start + span_of b - 1 in
    cond (eqb start 0) Unreadable (cond (ltb c end) Unreadable (Cycle (record { start = start; end = end; bridge = b })))

-- a ring of two carbons has the O bridge
unfoldable pub bridge_of : ℕ → Bridge
bridge_of size = cond (eqb size 2) Epoxide Carbocycle

-- 01: "The abbr is an alias ring, a group, or else": the alias ring before the group
abbrev pub named : Option ℕ → Option ℕ → Feature
named (Some n) f = Ring (bridge_of n)
named None (Some row) = Group row
named None None = Other

unfoldable pub feature_of : List ℕ → Feature
feature_of abbr = named (alias_ring_size abbr) (substituent_of abbr)

-- a feature at a position; position 0 of a group means unlocated
abbrev pub placed : Feature → ℕ → ℕ → Segment
placed (Ring b) pos c = ring_at pos b c
placed (Group row) pos c = Located (record { pos = pos; row = row })
placed Other pos c = Unreadable

abbrev pub placed_by : Feature → Option ℕ → ℕ → Segment
placed_by f (Some pos) c = placed f pos c
placed_by f None c = Unreadable

-- 01: "`abbr(list)`: groups or alias rings there". One position of the list, trimmed and without a letter.
unfoldable pub listed_as : Feature → List ℕ → ℕ → Segment
listed_as f s c = placed_by f (trimmed_number s) c

abbrev pub oxygens_by : Option ℕ → Segment
oxygens_by (Some n) = Oxygens n
oxygens_by None = Unreadable

-- 01: "`O` with an optional number (1 without), an oxygen count that draws nothing"
unfoldable pub oxygen_count : List ℕ → Segment
oxygen_count s = oxygens_by (number_or_one s)

-- 01: "Anything else gives 11."
unfoldable pub oxygens_in : List ℕ → Segment
oxygens_in [] = Unreadable
oxygens_in (x ∷ xs) = cond (eqb x 79) (oxygen_count xs) Unreadable

-- a feature where the abbreviation names one, else the oxygen count
abbrev pub feature_or : Feature → Segment → ℕ → ℕ → Segment
feature_or (Ring b) other pos c = ring_at pos b c
feature_or (Group row) other pos c = Located (record { pos = pos; row = row })
feature_or Other other pos c = other

-- 01: "The abbr is an alias ring, a group, or else `O` with an optional number"
unfoldable pub item_at : List ℕ → ℕ → ℕ → Segment
item_at abbr pos c = feature_or (feature_of abbr) (oxygens_in abbr) pos c

abbrev pub item_by : List ℕ → Option ℕ → ℕ → Segment
item_by abbr (Some pos) c = item_at abbr pos c
item_by abbr None c = Unreadable

-- 01: "split at commas: digits then abbr, no digits meaning 0, a part all digits unreadable". A part without any byte has no abbr either.
unfoldable pub part_of : List ℕ → ℕ → Segment
part_of s c =
    let n = digit_run s in
    cond (eqb n (length s)) Unreadable (item_by (drop n s) (leading_position (take n s)) c)

abbrev pub times_by : Option ℕ → Option ℕ → Segment
times_by (Some row) (Some n) = Repeated row n
times_by (Some row) None = Unreadable
times_by None n = Unreadable

-- 01: "`(abbr)n`: n unlocated groups, 1 if nothing follows". The text after the `(`, up to the first `)` and after it.
unfoldable pub repeated_of : List ℕ → Segment
repeated_of s =
    let k = index_of 41 s in
    cond (eqb k (length s)) Unreadable (times_by (substituent_of (take k s)) (number_or_one (after_place k s)))
