-- A row of a sheet. 01, Batch program: "42, place 0: a row over 2,048 bytes, of another cell count, or with a swap other than 0, 1 or blank".
-- Assumes nothing.
use Rattle.std.specs.Prelude.{ℕ, Bool, true, false, cond, List, length, eqb, ltb, Option, None, Some}
use Rattle.sheet_input.specs.declared.header.Column.TheVariants.{Class, Swap as SwapColumn, Tail}
use Rattle.sheet_input.specs.declared.header.Plan.{Plan}
use Rattle.sheet_input.specs.header.Header.{cells_of}
use Rattle.sheet_input.specs.declared.cellwords.Swap.{Swap}
use Rattle.sheet_input.specs.declared.cellwords.Swap.TheVariants.{No, Yes, Other}
use Rattle.sheet_input.specs.cellwords.Words.{swap_of}
use Rattle.sheet_input.specs.cells.Cells.{cell_of, tokens_in}
use Rattle.sheet_input.specs.declared.sheet.Asked.{Asked}

-- a row as a request: class, swap, tail and tokens; or 42
pub data Row : Type 0 where
  Unreadable : Row
  Asks : List ℕ → Bool → List ℕ → List (List ℕ) → Row

abbrev pub with_swap : Swap → Plan → List ℕ → Row
with_swap No p row = Asks (cell_of p Class row) false (cell_of p Tail row) (tokens_in p row)
with_swap Yes p row = Asks (cell_of p Class row) true (cell_of p Tail row) (tokens_in p row)
with_swap Other p row = Unreadable

-- "a row over 2,048 bytes"
abbrev pub max_row : ℕ
max_row = 2048

unfoldable pub request_of : Plan → List ℕ → Row
request_of p row =
    cond (ltb max_row (length row)) Unreadable
    (cond (eqb (length (cells_of row)) p.cells) (with_swap (swap_of (cell_of p SwapColumn row)) p row) Unreadable)

-- what a row asks beside its cells, if it is readable
abbrev pub told : Row → Option Asked
told Unreadable = None
told (Asks class swap tail tokens) = Some (record { swap = swap; count = length tokens })
