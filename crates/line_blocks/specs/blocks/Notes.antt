-- What a line has after its text. 01, The line and its reading: "Blocks: sn labels .., all Sg, all m; then `swappable(..)` and
-- `constrain(..)` joined by `;`. No block: bare text." Assumes nothing.
use Rattle.std.specs.Prelude.{ℕ, ◌≡◌, Bool, true, not, cond, List, [], ◌∷◌, ◌++◌, ltb}
use Rattle.reading_rules.specs.reading.Molecule.{At, Sum}
use Rattle.reading_rules.specs.reading.Show.{block_texts, trailer_texts}
use Rattle.placement.specs.declared.chain_notes.Placed.{Placed}
use Rattle.line_parts.specs.shown.Chained.{shown_blocks, shown_parts, still_first, blocks_end}

-- texts with the bar after them, where there is one
unfoldable pub barred : List (List ℕ) → List ℕ
barred bs = shown_blocks true bs ++ blocks_end (not (still_first true bs))

-- the blocks of labels, marks and site lists, and behind them the labels that may be exchanged and the sums
unfoldable pub notes_text : List (At ℕ) → List (At ℕ) → List (At (List ℕ)) → List Sum → List ℕ
unfolding barred block_texts trailer_texts
notes_text ls marks sites ss = barred (block_texts ls marks sites) ++ shown_parts true (trailer_texts ls ss)

-- how many of some sites have a label: all or none
abbrev pub labelled_of : Bool → ℕ → ℕ
labelled_of swap sited = cond swap (cond (ltb 1 sited) sited 0) 0

-- no chain has a double bond without a position, or a group that floats
unfoldable pub Bare : List Placed → Type 0
Bare [] = Unit {0}
Bare (p ∷ ps) = (p.unlocated ≡ 0) × (p.float_count ≡ 0) × Bare ps

-- these are such chains, where r says so
pub record Plain (ps : List Placed) (r : Bool) : Type 0 where
  pub told : r ≡ true → Bare ps
