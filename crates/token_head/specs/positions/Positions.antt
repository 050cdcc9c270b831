-- Lists of double bonds. 01, Token reader: "Positions are trimmed; a double bond's may end in one Z, z, E or e, a group's may not; an
-- empty list is none." Assumes nothing.
use Rattle.std.specs.Prelude.{ℕ, ◌-◌, List, cond, length, take, get_or, eqb, ltb, Option, Some, None}
use Rattle.scanner.specs.scan.Part.{trimmed}
use Rattle.scanner.specs.scan.Number.{number_up_to, number_limit}
use Rattle.token_syntax.specs.form.Parts.{list_parts}
use Rattle.chain_record.specs.plain.Chain.{Chain, Outcome, Read, Refused, with_bond, unreadable}
use Rattle.chain_record.specs.declared.plain.DbPos.{DbPos}
use Rattle.chain_record.specs.declared.plain.Geometry.{Geometry}
use Rattle.chain_record.specs.declared.plain.Geometry.TheVariants.{Unstated, Cis, Trans}
use Rattle.token_head.specs.positions.Each.{each}

-- what a last letter states: Z (90) and z (122) cis, E (69) and e (101) trans, any other byte nothing
unfoldable pub geometry_of : ℕ → Geometry
geometry_of b = cond (eqb b 90) Cis (cond (eqb b 122) Cis (cond (eqb b 69) Trans (cond (eqb b 101) Trans Unstated)))

-- a number is a position
abbrev pub positioned : Geometry → Option ℕ → Option DbPos
positioned g (Some n) = Some (record { pos = n; geom = g })
positioned g None = None

unfoldable pub numbered : Geometry → List ℕ → Option DbPos
numbered g t = positioned g (number_up_to number_limit t)

-- a text whose last byte states a geometry: the number is what stands before it, or all of it where the byte states none
abbrev pub lettered : Geometry → List ℕ → Option DbPos
lettered Unstated t = numbered Unstated t
lettered Cis t = numbered Cis (take (length t - 1) t)
lettered Trans t = numbered Trans (take (length t - 1) t)

-- 01: "Positions are trimmed; a double bond's may end in one Z, z, E or e"
unfoldable pub position_of : List ℕ → Option DbPos
position_of s =
    let t = trimmed s in
    cond (eqb (length t) 0) None (lettered (geometry_of (get_or t (length t - 1) 0)) t)

-- a double bond more, or 11
abbrev pub with_position : Option DbPos → Chain → Outcome
with_position (Some b) d = Read (with_bond b d)
with_position None d = Refused unreadable

unfoldable pub bond_at : List ℕ → Chain → Outcome
bond_at s d = with_position (position_of s) d

-- the `(..)` list of a chain
unfoldable pub bond_list : List ℕ → Chain → Outcome
bond_list s = each bond_at (list_parts s)

-- 01, a ring: 11 if "a position outside start..end−1"
abbrev pub inside : ℕ → ℕ → Option DbPos → Chain → Outcome
inside start end (Some b) d = cond (ltb b.pos start) (Refused unreadable) (cond (ltb b.pos end) (Read (with_bond b d)) (Refused unreadable))
inside start end None d = Refused unreadable

-- the same of the position alone
abbrev pub within : ℕ → ℕ → Option DbPos → Option DbPos
within start end (Some b) = cond (ltb b.pos start) None (cond (ltb b.pos end) (Some b) None)
within start end None = None

unfoldable pub ring_position : ℕ → ℕ → List ℕ → Option DbPos
ring_position start end s = within start end (position_of s)

unfoldable pub ring_bond_at : ℕ → ℕ → List ℕ → Chain → Outcome
ring_bond_at start end s d = inside start end (position_of s) d

-- the list of a ring from start to end
unfoldable pub ring_bond_list : ℕ → ℕ → List ℕ → Chain → Outcome
ring_bond_list start end s = each (ring_bond_at start end) (list_parts s)
