-- How some blocks of a line, or parts of its trailer, are written after others. Assumes nothing.
use Rattle.std.specs.Prelude.{ℕ, ◌≡◌, true, List}
use Rattle.writer.specs.emit.Text.{Written}
use Rattle.reading_rules.specs.reading.Ascii.{ascii}
use Rattle.line_parts.specs.shown.Chained.{shown, still_first}
use Rattle.line_blocks.specs.declared.chain_marks.Next.{Next}

-- the texts stand in the slice with what parts them, and b says where and whether the next is the first
pub record Put (opening sep : List ℕ) (bs : List (List ℕ)) (xs : List ℕ) (a : Next) (ys : List ℕ) (b : Next) : Type 0 where
  pub text : Written xs a.at (shown opening sep a.first bs) ys b.at
  pub first : b.first ≡ still_first a.first bs

-- a place before which there is nothing
abbrev pub start_at : ℕ → Next
start_at at = record { at = at; first = true }

abbrev pub PutBlocks : List (List ℕ) → List ℕ → Next → List ℕ → Next → Type 0
PutBlocks bs xs a ys b = Put (ascii " |") (ascii ",") bs xs a ys b

abbrev pub PutParts : List (List ℕ) → List ℕ → Next → List ℕ → Next → Type 0
PutParts bs xs a ys b = Put (ascii " ") (ascii ";") bs xs a ys b
