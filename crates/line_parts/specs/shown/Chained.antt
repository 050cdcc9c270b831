-- The blocks of a line one after the other, and the parts of its trailer, each with what stands before it: what the contracts of `shown`
-- cite. The texts of single blocks and parts are those of the reading rules. 01, The line and its reading: "After a blank and `|`, commas
-- part the blocks", "A closing `|` follows, then, after a blank, `swappable` and `constrain` if any, joined as above". Assumes nothing.
use Rattle.std.specs.Prelude.{ℕ, Bool, false, cond, List, [], ◌∷◌, ◌++◌}
use Rattle.writer.specs.emit.Text.{decimal}
use Rattle.reading_rules.specs.reading.Ascii.{ascii}

-- texts one after the other, `opening` before the first of them and `sep` before each later one
unfoldable pub chained : List ℕ → List ℕ → List (List ℕ) → List ℕ
chained opening sep [] = []
chained opening sep (b ∷ bs) = opening ++ (b ++ chained sep sep bs)

-- what stands before a text that is the first or not
unfoldable pub lead : List ℕ → List ℕ → Bool → List ℕ
lead opening sep first = cond first opening sep

-- some of the texts of a line, which begin with its first one or not
unfoldable pub shown : List ℕ → List ℕ → Bool → List (List ℕ) → List ℕ
unfolding chained lead
shown opening sep first bs = chained (lead opening sep first) sep bs

-- blocks
abbrev pub block_lead : Bool → List ℕ
block_lead first = lead (ascii " |") (ascii ",") first

abbrev pub shown_blocks : Bool → List (List ℕ) → List ℕ
shown_blocks first bs = shown (ascii " |") (ascii ",") first bs

-- the `|` after the last block, where there is a block
unfoldable pub blocks_end : Bool → List ℕ
unfolding ascii
blocks_end any = cond any (ascii "|") []

-- parts of the trailer
abbrev pub part_lead : Bool → List ℕ
part_lead first = lead (ascii " ") (ascii ";") first

abbrev pub shown_parts : Bool → List (List ℕ) → List ℕ
shown_parts first ts = shown (ascii " ") (ascii ";") first ts

-- whether what follows these texts is the first
unfoldable pub still_first : Bool → List (List ℕ) → Bool
still_first first [] = first
still_first first (b ∷ bs) = false

-- ---- within a block or a part

-- a number between a text and a byte
unfoldable pub numbered : List ℕ → ℕ → ℕ → List ℕ
unfolding decimal
numbered before n after = before ++ (decimal n ++ after ∷ [])

-- the byte before each part of a list but the first
unfoldable pub parting : Bool → ℕ → List ℕ
parting more s = cond more (s ∷ []) []

-- a part of a list, with that byte
unfoldable pub listed : Bool → ℕ → List ℕ → List ℕ
unfolding parting
listed more s t = parting more s ++ t
