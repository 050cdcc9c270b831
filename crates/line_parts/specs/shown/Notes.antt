-- What is noted of the atoms, as the writers take it: numbers and sites. Assumes nothing.
use Rattle.std.specs.Prelude.{ℕ, zero, suc, ◌+◌, ◌*◌, ◌≡◌, true, List, [], ◌∷◌, map}
use Rattle.reading_rules.specs.reading.Molecule.{At, at, Sum, sum, notes_of}
use Rattle.reading_rules.specs.reading.Line.{below}
use Rattle.chain_rules.specs.chain.Lists.{values_from}
use Rattle.line_parts.specs.declared.shown.Site.{Site}

-- 01, Drawing a chain: "variables sit on P+2i for i < n and on P+2n+1": the marks on P+2i, P being atom p and v the first variable
unfoldable pub marks_below : ℕ → ℕ → ℕ → List (At ℕ)
unfolding values_from
marks_below p v n = values_from (λ i. at (p + 2 * i) (v + i)) 0 n

-- v, v + 1, .., so many
unfoldable pub numbers_from : ℕ → ℕ → List ℕ
unfolding values_from
numbers_from v count = values_from (λ i. v + i) 0 count

-- the sum of a chain with n unlocated bonds whose first variable is v: it has n + 1 variables
unfoldable pub sum_list : ℕ → ℕ → ℕ → List Sum
unfolding numbers_from
sum_list v zero total = []
sum_list v (suc n) total = sum (numbers_from v (suc (suc n))) total ∷ []

-- the most sites that a line has: one for each sn
abbrev pub max_sites : ℕ
max_sites = 4

-- the labels at some sites
unfoldable pub labels_of : List Site → List (At ℕ)
labels_of ss = map (λ s. at s.atom s.sn) ss

-- a label has room for one digit: the sn of each site is below 10
abbrev pub Digits : List Site → Type 0
Digits ss = below 10 (notes_of (labels_of ss)) ≡ true
