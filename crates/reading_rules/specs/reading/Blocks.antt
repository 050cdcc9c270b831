-- The blocks of a line, each read by itself. 01, The line and its reading: "commas part the blocks: `$..$` names the atoms from 0, parted by
-- `;`; `Sg:n:i:v:ht` marks atom i with variable v ..; `m:i:` lists the sites of atom i, parted by dots", "At least one block stands there, in
-- the order above, with one `$..$` at most, of entries empty or sn1 to sn4", "Lists are not empty".
use Rattle.std.specs.Prelude.{ℕ, suc, ◌-◌, cond, List, [], ◌∷◌}
use Rattle.std.proofs.Math.Option.{Option, none, some}
use Rattle.scanner.specs.scan.Part.{same_bytes}
use Rattle.reading_rules.specs.smiles.Ascii.{ascii}
use Rattle.reading_rules.specs.smiles.Lexer.{within}
use Rattle.reading_rules.specs.words.Parting.{dollar, point, colon, semicolon, ◌>>=◌, each, parted, two, three, follows, enclosed}
use Rattle.reading_rules.specs.words.Numeral.{number}
use Rattle.reading_rules.specs.words.Names.{variable}
use Rattle.reading_rules.specs.molecule.Molecule.{At, at}

-- ---- `$..$`

-- a digit 1 to 4, alone
unfoldable pub sn_digit : List ℕ → Option ℕ
unfolding within
sn_digit [] = none
sn_digit (x ∷ []) = cond (within 49 52 x) (some (x - 48)) none
sn_digit (x ∷ y ∷ xs) = none

-- a label, sn1 to sn4
unfoldable pub label_of : List ℕ → Option ℕ
unfolding ascii follows sn_digit
label_of xs = follows (ascii "sn") xs >>= λ d. sn_digit d

-- an entry: empty, or a label
unfoldable pub entry_of : List ℕ → Option (Option ℕ)
unfolding label_of
entry_of [] = some none
entry_of (x ∷ xs) = label_of (x ∷ xs) >>= λ sn. some (some sn)

-- the entries that are labels, each with the number of its atom, which are counted from i
unfoldable pub labelled : ℕ → List (Option ℕ) → List (At ℕ)
labelled i [] = []
labelled i (none ∷ es) = labelled (suc i) es
labelled i (some sn ∷ es) = at i sn ∷ labelled (suc i) es

-- a list of labels is not empty
abbrev pub some_labels : List (At ℕ) → List (Option ℕ) → Option (List (Option ℕ))
some_labels [] es = none
some_labels (l ∷ ls) es = some es

-- the entries of a `$..$`
unfoldable pub entries_of : List ℕ → Option (List (Option ℕ))
unfolding ascii enclosed each parted entry_of labelled
entries_of xs = enclosed (ascii "$") dollar xs >>= λ r. each entry_of (parted semicolon r) >>= λ es. some_labels (labelled 0 es) es

-- ---- `Sg:n:i:v:ht`

unfoldable pub mark_of : List ℕ → Option (At ℕ)
unfolding ascii follows parted number variable same_bytes
mark_of xs =
    follows (ascii "Sg:n:") xs >>= λ r. three (parted colon r) >>= λ p. number p.0 >>= λ i. variable p.1 >>= λ v.
    cond (same_bytes p.2 (ascii "ht")) (some (at i v)) none

-- ---- `m:i:`

unfoldable pub sites_of : List ℕ → Option (At (List ℕ))
unfolding ascii follows parted number each
sites_of xs =
    follows (ascii "m:") xs >>= λ r. two (parted colon r) >>= λ p. number p.0 >>= λ i. each number (parted point p.1) >>= λ js. some (at i js)

-- ---- the blocks in their order

-- what the blocks of a line say; no entries where there is no `$..$`
pub data Blocks : Type 0 where
  blocks : List (Option ℕ) → List (At ℕ) → List (At (List ℕ)) → Blocks

-- after the marks, all blocks are site lists
unfoldable pub only_sites : List (Option ℕ) → List (At ℕ) → List (List ℕ) → Option Blocks
unfolding each sites_of
only_sites es ms bs = each sites_of bs >>= λ fs. some (blocks es ms fs)

-- the marks that lead, as long as there are some: k gets them, and the blocks after them
unfoldable pub marks_then : (List (At ℕ) → List (List ℕ) → Option Blocks) → List (List ℕ) → Option Blocks
unfolding mark_of
marks_then k [] = k [] []
marks_then k (b ∷ bs) = elim (mark_of b) [ none ↦ k [] (b ∷ bs) | some m ↦ marks_then (λ ms r. k (m ∷ ms) r) bs ]

-- a `$..$`, if the first block is one, then the marks and the site lists
unfoldable pub read_blocks : List (List ℕ) → Option Blocks
unfolding entries_of only_sites marks_then
read_blocks [] = none
read_blocks (b ∷ bs) = elim (entries_of b) [ none ↦ marks_then (only_sites []) (b ∷ bs) | some es ↦ marks_then (only_sites es) bs ]
