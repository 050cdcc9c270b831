-- Requests of 01's own examples: they are accepted, so the promise is due for them, and their lines and lists are those of 01.
-- Assumes nothing.
use Prim.Native.Nat.{ℕ}
use Prim.Native.String.{String}
use native.Mathlib.Omega.{arith}
use mathlib.Core.Path.{◌≡◌, refl}
use mathlib.Core.Bool.{false, false≢true}
use mathlib.Core.List.{List, [], ◌∷◌, map}
use Rattle.chain_record.specs.declared.plain.ChainPrefix.TheVariants as prefix
use Rattle.chain_record.specs.plain.Chain.{Chain, no_features, with_group, with_unlocated}
use Rattle.group_table.specs.groups.Groups.{entries, hydroxy}
use Rattle.reading_rules.specs.reading.Ascii.{ascii}
use Rattle.reading_rules.specs.reading.Part.{part_of}
use Rattle.chain_rules.specs.chain.Refusals.{wrong_kind, place_refusal, draw_refusal}
use Rattle.chain_rules.specs.chain.Drawing.{or_none, chain_drawn, carbon_atoms, marks, sites, sums}
use Rattle.writer.specs.emit.Text.{digits}
use Rattle.template_rules.specs.declared.Class.{Class}
use Rattle.template_rules.specs.declared.Class.TheVariants.{Fa, Sb}
use Rattle.template_rules.specs.Written.{line_of, index_of}
use Rattle.template_rules.specs.Promise.{Promise}
use Rattle.template_rules.proofs.Theorem.{Accepted, promise}

-- a request, its line and its lists end to end
pub data Example : Type 0 where
  gives : Class → String → List Chain → String → List ℕ → Example

pub found : Example → List ℕ × List ℕ
unfolding line_of index_of ascii
found (gives c t ds line is) = (line_of c false (ascii t) ds, index_of c (ascii t) ds)

pub expected : Example → List ℕ × List ℕ
unfolding ascii
expected (gives c t ds line is) = (ascii line, is)

-- 6:1, 5:0;OH and d6:0
abbrev pub hexenoic : Chain
hexenoic = with_unlocated 1 (no_features prefix.Acyl 6 6 false)

abbrev pub hydroxypentanoic : Chain
hydroxypentanoic = with_group (record { pos = 0; row = hydroxy }) (no_features prefix.Acyl 5 5 false)

abbrev pub sphinganine : Chain
sphinganine = no_features prefix.SphingoidD 6 6 false

pub examples : List Example
examples =
    gives Fa "" (hexenoic ∷ []) "OC(=O)CC=CC |Sg:n:3:a:ht,Sg:n:6:b:ht| constrain(a+b=3)" (1 ∷ 3 ∷ 4 ∷ 5 ∷ 6 ∷ [])
    ∷ gives Fa "" (hydroxypentanoic ∷ []) "OC(=O)CCCC.*O |m:7:3.4.5.6|" (1 ∷ 3 ∷ 4 ∷ 5 ∷ 6 ∷ [])
    ∷ gives Sb "O" (sphinganine ∷ []) "C(CO)(N)C(O)CCC" (1 ∷ 0 ∷ 4 ∷ 6 ∷ 7 ∷ 8 ∷ [])
    ∷ []

pub worked-examples : map found examples ≡ map expected examples
unfolding examples found expected with_unlocated with_group entries digits chain_drawn carbon_atoms marks sites sums
worked-examples = refl

-- each of them is accepted
pub hexenoic-accepted : Accepted Fa [] (hexenoic ∷ [])
unfolding with_unlocated wrong_kind place_refusal draw_refusal
hexenoic-accepted =
    record {
      few = omega arith;
      many = omega arith;
      chains = (record { sound = record { within = record { carbons = omega arith; bonds = omega arith; groups = omega arith; rings = omega arith }; rows = tt; rings = tt; reduced = refl }; kind = refl; placed = refl; draws = refl }, tt);
      tail = λ e. absurd (false≢true e);
    }

pub hydroxypentanoic-accepted : Accepted Fa [] (hydroxypentanoic ∷ [])
unfolding with_group wrong_kind place_refusal draw_refusal
hydroxypentanoic-accepted =
    record {
      few = omega arith;
      many = omega arith;
      chains = (record { sound = record { within = record { carbons = omega arith; bonds = omega arith; groups = omega arith; rings = omega arith }; rows = (omega arith, tt); rings = tt; reduced = refl }; kind = refl; placed = refl; draws = refl }, tt);
      tail = λ e. absurd (false≢true e);
    }

pub sphinganine-accepted : Accepted Sb (ascii "O") (sphinganine ∷ [])
unfolding wrong_kind place_refusal draw_refusal part_of ascii
sphinganine-accepted =
    record {
      few = omega arith;
      many = omega arith;
      chains = (record { sound = record { within = record { carbons = omega arith; bonds = omega arith; groups = omega arith; rings = omega arith }; rows = tt; rings = tt; reduced = refl }; kind = refl; placed = refl; draws = refl }, tt);
      tail = λ e. record { part = or_none (part_of (ascii "O")); is = refl; few = omega arith };
    }

-- so the promise holds of it
pub hexenoic-promise : Promise Fa false [] (hexenoic ∷ [])
hexenoic-promise = promise Fa false [] (hexenoic ∷ []) hexenoic-accepted
