-- Repeat counts. 01, The line and its reading: "Repeat counts are whole numbers from 1, copies of the atom in a row, and meet each sum."
-- A choice of counts gives each variable its number. Assumes nothing.
use Rattle.std.specs.Prelude.{ℕ, ◌+◌, ◌≤◌, ◌≡◌, cond, List, [], ◌∷◌}
use Rattle.std.proofs.Math.Option.{Option, none, some}
use Rattle.chain_record.specs.plain.Chain.{Chain}
use Rattle.reading_rules.specs.reading.Molecule.{Sum, sum}

-- the numbers of some places, added up
unfoldable pub total : (ℕ → ℕ) → List ℕ → ℕ
total count [] = 0
total count (i ∷ is) = count i + total count is

-- how often an atom stands there: once, unless it is marked with a variable
unfoldable pub copies : (ℕ → ℕ) → Option ℕ → ℕ
copies count none = 1
copies count (some v) = count v

-- every count is from 1
abbrev pub Counts : (ℕ → ℕ) → Type 0
Counts count = (v : ℕ) → 1 ≤ count v

abbrev pub Meets : (ℕ → ℕ) → Sum → Type 0
Meets count (sum vs n) = total count vs ≡ n

-- 01, demand 3: a methyl counts among the written carbons, and is none of the chain's
unfoldable pub methyls : Chain → ℕ
methyls d = cond d.branched 1 0
