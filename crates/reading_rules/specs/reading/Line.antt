-- A line, read: the molecule, or none where the line is unreadable. 01, The line and its reading.
use Rattle.std.specs.Prelude.{ℕ, zero, suc, Bool, true, cond, not, ◌&&◌, List, [], ◌∷◌, ◌++◌, length, eqb, ltb, leb}
use Rattle.std.proofs.Math.Option.{Option, none, some}
use Rattle.reading_rules.specs.smiles.Ascii.{ascii}
use Rattle.reading_rules.specs.smiles.Lexer.{memb}
use Rattle.reading_rules.specs.smiles.Row.{Row}
use Rattle.reading_rules.specs.smiles.Text.{read_text}
use Rattle.reading_rules.specs.words.Parting.{blank, comma, semicolon, bar, ◌>>=◌, parted, enclosed}
use Rattle.reading_rules.specs.molecule.Molecule.{atoms_of, notes_of, Sum, variables_of, Molecule, molecule_of}
use Rattle.reading_rules.specs.reading.Blocks.{Blocks, blocks, read_blocks, labelled}
use Rattle.reading_rules.specs.reading.Trailer.{Trailer, trailer, read_trailer}

-- ---- the three parts of a line

-- a line taken apart: its text, what its blocks say, and what its trailer says
pub data Apart : Type 0 where
  apart : List ℕ → Blocks → Trailer → Apart

-- "After a blank and `|`, commas part the blocks", "A closing `|` follows"
unfoldable pub barred : List ℕ → Option Blocks
unfolding ascii enclosed parted read_blocks
barred xs = enclosed (ascii "|") bar xs >>= λ r. read_blocks (parted comma r)

-- no blank stands in any of the three parts, so the line is parted at each. Bare text has no blocks
unfoldable pub apart_of : List (List ℕ) → Option Apart
unfolding barred read_trailer parted
apart_of [] = none
apart_of (t ∷ []) = some (apart t (blocks [] [] []) (trailer [] []))
apart_of (t ∷ b ∷ []) = barred b >>= λ bs. some (apart t bs (trailer [] []))
apart_of (t ∷ b ∷ r ∷ []) = barred b >>= λ bs. read_trailer (parted semicolon r) >>= λ tr. some (apart t bs tr)
apart_of (t ∷ b ∷ r ∷ q ∷ ps) = none

-- ---- what the parts must have of one another

unfoldable pub flat : List (List ℕ) → List ℕ
flat [] = []
flat (xs ∷ r) = xs ++ flat r

-- the variables of the sums, in order
unfoldable pub summed : List Sum → List ℕ
summed [] = []
summed (s ∷ ss) = variables_of s ++ summed ss

-- every number is below n
unfoldable pub below : ℕ → List ℕ → Bool
below n [] = true
below n (i ∷ is) = ltb i n && below n is

-- no number stands there twice
unfoldable pub distinct : List ℕ → Bool
unfolding memb
distinct [] = true
distinct (i ∷ is) = not (memb i is) && distinct is

-- how often x stands among ys
unfoldable pub times : ℕ → List ℕ → ℕ
times x [] = zero
times x (y ∷ ys) = let n = times x ys in cond (eqb x y) (suc n) n

-- each of xs stands exactly once among ys
unfoldable pub once : List ℕ → List ℕ → Bool
unfolding times
once [] ys = true
once (x ∷ xs) ys = eqb (times x ys) 1 && once xs ys

-- the numbers rise strictly
unfoldable pub rising : List ℕ → Bool
rising [] = true
rising (x ∷ []) = true
rising (x ∷ y ∷ ys) = ltb x y && rising (y ∷ ys)

-- "unreadable: an index past the atoms; an atom .. marked, or an atom given sites, twice"; n is the number of atoms
unfoldable pub placed_well : ℕ → Blocks → Bool
unfolding below distinct atoms_of notes_of flat
placed_well n (blocks es ms fs) =
    leb (length es) n && below n (atoms_of ms) && below n (atoms_of fs) && below n (flat (notes_of fs)) && distinct (atoms_of ms) && distinct (atoms_of fs)

-- "`swappable` stands exactly with it and holds its labels, strictly rising"
unfoldable pub swaps_well : List ℕ → List ℕ → Bool
unfolding rising once
swaps_well labels swaps = rising swaps && once labels swaps && once swaps labels

-- "a variable marked .. twice; a marked variable not exactly once in the sums, or an unmarked one there"
unfoldable pub sums_well : List ℕ → List ℕ → Bool
unfolding once
sums_well marked sums = once marked sums && once sums marked

-- the molecule of the parts, for a text of these rows
unfoldable pub judged : Blocks → Trailer → List Row → Option Molecule
unfolding placed_well swaps_well sums_well notes_of labelled summed molecule_of
judged (blocks es ms fs) (trailer ws ss) rs =
    cond (placed_well (length rs) (blocks es ms fs) && swaps_well (notes_of (labelled 0 es)) ws && sums_well (notes_of ms) (summed ss))
    (some (molecule_of rs (labelled 0 es) ms fs ss)) none

unfoldable pub judged_apart : Apart → Option Molecule
unfolding read_text judged
judged_apart (apart t bs tr) = read_text t >>= λ rs. judged bs tr rs

unfoldable pub read_line : List ℕ → Option Molecule
unfolding parted apart_of judged_apart
read_line xs = apart_of (parted blank xs) >>= λ p. judged_apart p
