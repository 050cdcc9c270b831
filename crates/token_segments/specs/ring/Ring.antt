-- A ring segment, read into a chain. 01, Token reader: "text before the first `cy` containing `-`: ring start-end`cy`size, each trimmed,
-- then optionally `:n` and after it `(list)`, blank n being 0. 11 if end < start, end > c, size wrong, more positions than n, or a position
-- outside start..end−1. Its bonds join after the chain's count; unpositioned ones are dropped." Bytes: `(` 40, `:` 58. Assumes nothing.
use Rattle.std.specs.Prelude.{ℕ, ◌+◌, ◌-◌, List, Bool, true, false, cond, length, take, drop, eqb, ltb, Option, Some, None}
use Rattle.scanner.specs.scan.Part.{part, index_of}
use Rattle.token_syntax.specs.form.Parts.{list_parts}
use Rattle.token_syntax.specs.form.Form.{ends_in_parenthesis, after_place}
use Rattle.token_syntax.specs.form.Numbers.{trimmed_number, ring_count}
use Rattle.chain_record.specs.declared.plain.Ring.{Ring}
use Rattle.chain_record.specs.plain.Chain.{Chain, Outcome, Read, Refused, and_then, with_ring, unreadable}
use Rattle.token_head.specs.positions.Positions.{ring_bond_list}
use Rattle.token_features.specs.features.Features.{ring_of}
use Rattle.token_features.specs.declared.features.Segment.{Segment}
use Rattle.token_features.specs.declared.features.Segment.TheVariants.{Cycle, Located, Repeated, Oxygens, Unreadable}

-- a number, or 11
abbrev pub value_or11 : Option ℕ → (ℕ → Outcome) → Outcome
value_or11 (Some n) f = f n
value_or11 None f = Refused unreadable

-- a ring, or 11
abbrev pub ring_or11 : Segment → (Ring → Outcome) → Outcome
ring_or11 (Cycle r) f = f r
ring_or11 (Located g) f = Refused unreadable
ring_or11 (Repeated row n) f = Refused unreadable
ring_or11 (Oxygens n) f = Refused unreadable
ring_or11 Unreadable f = Refused unreadable

-- what follows a `(` has to end in `)`: f of the list before it, or 11
unfoldable pub closed_or11 : (List ℕ → Chain → Outcome) → List ℕ → Chain → Outcome
closed_or11 f s d = cond (ends_in_parenthesis s) (f (take (length s - 1) s) d) (Refused unreadable)

-- "11 if .. more positions than n, or a position outside start..end−1. Its bonds join after the chain's count; unpositioned ones are dropped."
unfoldable pub ring_list : Ring → ℕ → List ℕ → Chain → Outcome
ring_list r n list d =
    cond (ltb n (length (list_parts list))) (Refused unreadable)
    (and_then (ring_bond_list r.start r.end list d) (λ e. Read (with_ring r e)))

unfoldable pub ring_listed : Ring → ℕ → List ℕ → Chain → Outcome
ring_listed r n = closed_or11 (ring_list r n)

abbrev pub ring_listed_or : Bool → Ring → ℕ → List ℕ → Chain → Outcome
ring_listed_or true r n s d = Read (with_ring r d)
ring_listed_or false r n s d = ring_listed r n s d

-- "then optionally `:n` and after it `(list)`, blank n being 0": what follows the colon, with n up to the first `(`
unfoldable pub ring_bonds : Ring → List ℕ → Chain → Outcome
ring_bonds r s d = value_or11 (ring_count (take (index_of 40 s) s)) (λ n. ring_listed_or (eqb (index_of 40 s) (length s)) r n (after_place (index_of 40 s) s) d)

-- a ring's size, up to the first colon, and what follows it
unfoldable pub ring_sized : ℕ → ℕ → List ℕ → Chain → Outcome
ring_sized start end s d =
    value_or11 (trimmed_number (take (index_of 58 s) s))
    (λ size. ring_or11 (ring_of start end size d.carbon) (λ r. ring_bonds r (after_place (index_of 58 s) s) d))

-- a ring with its dash and its `cy` at these places
unfoldable pub ring_segment : List ℕ → ℕ → ℕ → Chain → Outcome
ring_segment s dash cy d =
    value_or11 (trimmed_number (take dash s))
    (λ start. value_or11 (trimmed_number (part (dash + 1) cy s)) (λ end. ring_sized start end (drop (cy + 2) s) d))
