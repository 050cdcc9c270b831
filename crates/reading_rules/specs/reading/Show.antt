-- How a line is shown. 01, The line and its reading: "Blocks: sn labels .., all Sg, all m; then `swappable(..)` and `constrain(..)` joined by
-- `;`. No block: bare text"; document 000, `finish` and `sn_label_block`.
use Rattle.std.specs.Prelude.{ℕ, zero, suc, ◌+◌, max, List, [], ◌∷◌, ◌++◌, map}
use Rattle.std.proofs.Math.Option.{Option, none, some}
use Rattle.reading_rules.specs.smiles.Ascii.{ascii}
use Rattle.reading_rules.specs.words.Parting.{plus, comma, point, semicolon, joined}
use Rattle.writer.specs.emit.Text.{decimal}
use Rattle.reading_rules.specs.words.Names.{name_of}
use Rattle.reading_rules.specs.molecule.Molecule.{At, at, notes_of, look, Sum, sum}

-- ---- the blocks

unfoldable pub show_label : ℕ → List ℕ
unfolding ascii
show_label sn = ascii "sn" ++ (48 + sn) ∷ []

unfoldable pub show_entry : Option ℕ → List ℕ
unfolding show_label
show_entry none = []
show_entry (some sn) = show_label sn

-- the labels of n atoms that are numbered from i
unfoldable pub entries : ℕ → ℕ → List (At ℕ) → List (Option ℕ)
unfolding look
entries zero i ls = []
entries (suc n) i ls = look i ls ∷ entries n (suc i) ls

-- the number of atoms up to the last with a label
unfoldable pub up_to_last : List (At ℕ) → ℕ
up_to_last [] = zero
up_to_last (at i sn ∷ ls) = max (suc i) (up_to_last ls)

-- trailing empty entries are left out
unfoldable pub label_block : List (At ℕ) → List ℕ
unfolding ascii joined show_entry entries up_to_last
label_block ls = ascii "$" ++ (joined semicolon (map show_entry (entries (up_to_last ls) 0 ls)) ++ ascii "$")

unfoldable pub show_mark : At ℕ → List ℕ
unfolding ascii decimal name_of
show_mark (at i v) = ascii "Sg:n:" ++ (decimal i ++ (ascii ":" ++ (name_of v ++ ascii ":ht")))

unfoldable pub show_sites : At (List ℕ) → List ℕ
unfolding ascii decimal joined
show_sites (at i js) = ascii "m:" ++ (decimal i ++ (ascii ":" ++ joined point (map decimal js)))

-- a line has a `$..$` exactly where it has labels
unfoldable pub label_blocks : List (At ℕ) → List (List ℕ)
unfolding label_block
label_blocks [] = []
label_blocks (l ∷ ls) = label_block (l ∷ ls) ∷ []

unfoldable pub block_texts : List (At ℕ) → List (At ℕ) → List (At (List ℕ)) → List (List ℕ)
unfolding label_blocks show_mark show_sites
block_texts labels marks sites = label_blocks labels ++ (map show_mark marks ++ map show_sites sites)

-- ---- the trailer

unfoldable pub show_swap : List ℕ → List ℕ
unfolding ascii joined show_label
show_swap sns = ascii "swappable(" ++ (joined comma (map show_label sns) ++ ascii ")")

unfoldable pub show_sum : Sum → List ℕ
unfolding ascii joined name_of decimal
show_sum (sum vs n) = ascii "constrain(" ++ (joined plus (map name_of vs) ++ (ascii "=" ++ (decimal n ++ ascii ")")))

unfoldable pub swap_texts : List (At ℕ) → List (List ℕ)
unfolding show_swap notes_of
swap_texts [] = []
swap_texts (l ∷ ls) = show_swap (notes_of (l ∷ ls)) ∷ []

unfoldable pub trailer_texts : List (At ℕ) → List Sum → List (List ℕ)
unfolding swap_texts show_sum
trailer_texts labels sums = swap_texts labels ++ map show_sum sums

-- ---- the line

unfoldable pub show_trailer : List (List ℕ) → List ℕ
unfolding ascii joined
show_trailer [] = []
show_trailer (t ∷ ts) = ascii " " ++ joined semicolon (t ∷ ts)

unfoldable pub show_blocks : List (List ℕ) → List (List ℕ) → List ℕ
unfolding ascii joined show_trailer
show_blocks [] ts = []
show_blocks (b ∷ bs) ts = ascii " |" ++ (joined comma (b ∷ bs) ++ (ascii "|" ++ show_trailer ts))

-- The line of a text with sn labels (by rising sn), marks and site lists at some of its atoms, and with sums
unfoldable pub show_line : List ℕ → List (At ℕ) → List (At ℕ) → List (At (List ℕ)) → List Sum → List ℕ
unfolding show_blocks block_texts trailer_texts
show_line text labels marks sites sums = text ++ show_blocks (block_texts labels marks sites) (trailer_texts labels sums)
