-- 01, Token reader: what a token says, from its untrimmed bytes to a chain, 31 or 11. Bytes: `(` 40, `)` 41, `:` 58. Assumes nothing.
use Rattle.std.specs.Prelude.{ℕ, ◌+◌, ◌-◌, List, [], ◌∷◌, Bool, true, false, cond, length, take, drop, eqb, ltb, leb, Option, Some, None}
use Rattle.scanner.specs.scan.Part.{trimmed, index_of, starts_with, same_bytes}
use Rattle.scanner.specs.scan.Number.{digit_run, digits_up_to, number_limit}
use Rattle.chain_record.specs.declared.plain.ChainPrefix.{ChainPrefix}
use Rattle.chain_record.specs.declared.plain.ChainPrefix.TheVariants.{Acyl}
use Rattle.chain_record.specs.declared.plain.DbPos.{DbPos}
use Rattle.chain_record.specs.plain.Chain.{Chain, Outcome, Read, Refused, and_then, unreadable, over_limit, no_features, with_unlocated, counts_of}
use Rattle.token_reader.specs.seats.Seats.{seated, positions}
use Rattle.token_head.specs.positions.Positions.{bond_list}
use Rattle.token_head.specs.declared.opening.Branch.{Branch}
use Rattle.token_head.specs.opening.Opening.{opening_of, carbons_of}
use Rattle.token_segments.specs.segment.Segment.{segments}

-- ---- after the segments

-- "more bonds are given than declared, seats fail": those that are declared and not given, on c carbons, where each finds a seat
unfoldable pub missing_of : ℕ → List DbPos → ℕ → Option ℕ
missing_of c given declared =
    let n = declared - length given in
    cond (ltb declared (length given)) None (cond (seated c (positions given) n) (Some n) None)

-- "the last oxygen count is above 0 with no group and no ring"
unfoldable pub bare_oxygens : Chain → Bool
bare_oxygens d = cond (eqb d.oxygens 0) false (cond (eqb (length d.groups) 0) (eqb (length d.rings) 0) false)

-- "After the segments: 11 if more bonds are given than declared, seats fail, or the last oxygen count is above 0 with no group and no ring."
-- "Only their number n survives."
abbrev pub finished : Option ℕ → Chain → Outcome
finished None d = Refused unreadable
finished (Some n) d = cond (bare_oxygens d) (Refused unreadable) (Read (with_unlocated n d))

-- "then segments split at `;`"
unfoldable pub rest_of : Option ℕ → List ℕ → Chain → Outcome
rest_of m s d = and_then (segments s d) (finished m)

-- ---- from the bond count on

-- 31: "counts after each bond list .. read without 11"
unfoldable pub counted_list : List ℕ → Chain → Outcome
counted_list s d = and_then (bond_list s d) counts_of

-- "an optional `(..)` position list straight after": what follows its `(`, up to the first `)` and from there on
unfoldable pub listed_of : ℕ → List ℕ → Chain → Outcome
listed_of declared s d =
    let n = index_of 41 s in
    cond (eqb n (length s)) (Refused unreadable)
    (and_then (counted_list (take n s) d) (λ e. rest_of (missing_of d.carbon e.bonds declared) (drop (n + 1) s) e))

-- the list, or none, and what follows
unfoldable pub after_count : ℕ → List ℕ → Chain → Outcome
after_count declared s d =
    cond (starts_with (40 ∷ []) s) (listed_of declared (drop 1 s) d)
    (rest_of (missing_of d.carbon d.bonds declared) s d)

abbrev pub count_by : Option ℕ → List ℕ → Chain → Outcome
count_by (Some n) s d = after_count n s d
count_by None s d = Refused unreadable

-- "digits of the bond count"; "the bond count and a group's leading position are digits only"
unfoldable pub bonds_of : List ℕ → Chain → Outcome
bonds_of s d = count_by (digits_up_to number_limit (take (digit_run s) s)) (drop (digit_run s) s) d

-- ---- the token

-- "Carbon text to the first colon"
unfoldable pub named_chain : ChainPrefix → Branch → List ℕ → Outcome
named_chain p b s =
    let n = index_of 58 s in
    cond (eqb n (length s)) (Refused unreadable) (and_then (carbons_of p b (take n s)) (bonds_of (drop (n + 1) s)))

-- `0:0`
abbrev pub empty_text : List ℕ
empty_text = 48 ∷ 58 ∷ 48 ∷ []

-- "`0:0` is an empty chain. Otherwise" what its opening says
unfoldable pub trimmed_of : List ℕ → Outcome
trimmed_of t =
    let o = opening_of t in
    cond (same_bytes t empty_text) (Read (no_features Acyl 0 0 false)) (named_chain o.prefix o.branch (drop o.carbons t))

-- 31: "a byte outside 32 to 126"
unfoldable pub printable : ℕ → Bool
printable b = cond (ltb b 32) false (leb b 126)

unfoldable pub all_printable : List ℕ → Bool
all_printable [] = true
all_printable (x ∷ xs) = cond (printable x) (all_printable xs) false

-- 31: "token over 255 bytes"
abbrev pub max_bytes : ℕ
max_bytes = 255

-- 31: "length and bytes of the untrimmed token first"; "The trimmed token is a part of the caller's bytes"
unfoldable pub token_of : List ℕ → Outcome
token_of s =
    cond (ltb max_bytes (length s)) (Refused over_limit)
    (cond (all_printable s) (trimmed_of (trimmed s)) (Refused over_limit))
