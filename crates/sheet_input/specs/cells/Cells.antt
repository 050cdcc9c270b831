-- The cells of a row. 01, Batch program: "a name left out counts as blank (no bytes)"; "tokens run to the last nonblank sn".
-- Assumes nothing.
use Rattle.std.specs.Prelude.{ℕ, zero, suc, List, [], ◌∷◌, get_or, take}
use Rattle.sheet_input.specs.declared.header.Column.{Column}
use Rattle.sheet_input.specs.declared.header.Column.TheVariants.{Sn1, Sn2, Sn3, Sn4}
use Rattle.sheet_input.specs.declared.header.Plan.{Plan}
use Rattle.sheet_input.specs.header.Header.{cells_of, column_index}
use Rattle.sheet_input.specs.cellwords.Words.{last_nonblank}

-- a cell by its place; "a name left out counts as blank (no bytes)"
unfoldable pub cell_at : ℕ → List (List ℕ) → List ℕ
cell_at zero cells = []
cell_at (suc i) cells = get_or cells i []

-- the cell of a column
abbrev pub cell_of : Plan → Column → List ℕ → List ℕ
cell_of p column row = cell_at (get_or p.places (column_index column) 0) (cells_of row)

abbrev pub sn_cells : Plan → List ℕ → List (List ℕ)
sn_cells p row = cell_of p Sn1 row ∷ cell_of p Sn2 row ∷ cell_of p Sn3 row ∷ cell_of p Sn4 row ∷ []

-- "tokens run to the last nonblank sn"
abbrev pub tokens_in : Plan → List ℕ → List (List ℕ)
tokens_in p row = take (last_nonblank (sn_cells p row)) (sn_cells p row)
