-- A row that is cut into its cells. Assumes nothing.
use Rattle.std.specs.Prelude.{ℕ, ◌+◌, ◌-◌, ◌≤◌, ◌<◌, ◌≡◌, List, [], length, get_or, take, drop}
use Rattle.sheet_input.specs.header.Header.{cells_of}
use Rattle.scanner.specs.scan.Part.{part, Place, index_of}
use Rattle.sheet_input.specs.declared.cutting.Line.{Line}

-- the cell k of a row, counted from 0, stands from its start up to one byte before the next start
pub record Between (row starts : List ℕ) (k : ℕ) : Type 0 where
  pub low : get_or starts k 0 < get_or starts (k + 1) 0
  pub high : get_or starts (k + 1) 0 ≤ length row + 1
  pub cell : take (get_or starts (k + 1) 0 - 1 - get_or starts k 0) (drop (get_or starts k 0) row) ≡ get_or (cells_of row) k []

-- a row of n cells, with the starts of those for which there is room
pub record Cut (row starts : List ℕ) (n : ℕ) : Type 0 where
  pub count : n ≡ length (cells_of row)
  pub cells : (k : ℕ) → k + 1 < length starts → k < n → Between row starts k

-- the line that a text begins with, up to its LF or to the end, is cut
pub record LineCut (text starts : List ℕ) (r : Line) : Type 0 where
  pub end : Place text (index_of 10 text) r.end
  pub cut : Cut (part 0 r.end text) starts r.cells
