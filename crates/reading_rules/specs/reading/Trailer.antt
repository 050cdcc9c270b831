-- What stands after the blocks. 01, The line and its reading: "A closing `|` follows, then, after a blank, `swappable` and `constrain` if any,
-- joined as above: a sum is its variables parted by `+`, then `=` and its number; sums, and `swappable` labels, are parted as in document
-- 000": there each sum has its own `constrain(..)`, these and `swappable(..)` are joined by `;`, and labels are parted by commas.
use Rattle.std.specs.Prelude.{ℕ, List, [], ◌∷◌}
use Rattle.std.proofs.Math.Option.{Option, none, some}
use Rattle.reading_rules.specs.smiles.Ascii.{ascii}
use Rattle.reading_rules.specs.words.Parting.{closing, plus, comma, equals, ◌>>=◌, each, parted, two, enclosed}
use Rattle.reading_rules.specs.words.Numeral.{number}
use Rattle.reading_rules.specs.words.Names.{variable}
use Rattle.reading_rules.specs.molecule.Molecule.{Sum, sum}
use Rattle.reading_rules.specs.reading.Blocks.{label_of}

-- the labels of a `swappable(..)`
unfoldable pub swap_of : List ℕ → Option (List ℕ)
unfolding ascii enclosed each parted label_of
swap_of xs = enclosed (ascii "swappable(") closing xs >>= λ r. each label_of (parted comma r)

-- the sum of a `constrain(..)`
unfoldable pub sum_of : List ℕ → Option Sum
unfolding ascii enclosed each parted number variable
sum_of xs =
    enclosed (ascii "constrain(") closing xs >>= λ r. two (parted equals r) >>= λ p. each variable (parted plus p.0) >>= λ vs. number p.1 >>= λ n.
    some (sum vs n)

-- what the trailer says; no labels where there is no `swappable(..)`
pub data Trailer : Type 0 where
  trailer : List ℕ → List Sum → Trailer

unfoldable pub only_sums : List ℕ → List (List ℕ) → Option Trailer
unfolding each sum_of
only_sums ws ts = each sum_of ts >>= λ ss. some (trailer ws ss)

-- a `swappable(..)`, if the first part is one, then the sums
unfoldable pub read_trailer : List (List ℕ) → Option Trailer
unfolding swap_of only_sums
read_trailer [] = none
read_trailer (t ∷ ts) = elim (swap_of t) [ none ↦ only_sums [] (t ∷ ts) | some ws ↦ only_sums ws ts ]
