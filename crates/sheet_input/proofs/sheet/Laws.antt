-- Laws of rows: what a row asks.
-- Assumes nothing.
use Prim.Native.Nat.{ℕ, ◌≤◌, ◌<◌}
use mathlib.Core.Path.{◌≡◌, sym}
use mathlib.Core.Bool.{true, false}
use mathlib.Core.List.{List}
use lib.ListN.{length}
use lib.Seq.{length-take-le}
use borrow.Author.Tests.{eq-eqb, ne_eqb, lt-ltb, le-ltb}
use Rattle.std.specs.Prelude.{None, Some}
use Rattle.sheet_input.specs.declared.header.Column.TheVariants.{Swap as SwapColumn}
use Rattle.sheet_input.specs.declared.header.Plan.{Plan}
use Rattle.sheet_input.specs.header.Header.{cells_of}
use Rattle.sheet_input.specs.declared.cellwords.Swap.{Swap}
use Rattle.sheet_input.specs.declared.cellwords.Swap.TheVariants.{No, Yes, Other}
use Rattle.sheet_input.specs.cellwords.Words.{swap_of, last_nonblank}
use Rattle.sheet_input.specs.cells.Cells.{cell_of, sn_cells, tokens_in}
use Rattle.sheet_input.proofs.cellwords.Laws.{last_within}
use Rattle.sheet_input.specs.sheet.Sheet.{with_swap, request_of, told}

-- ---- what a row asks

module _ (p : Plan) (row : List ℕ) where
  token-length : length (tokens_in p row) ≡ last_nonblank (sn_cells p row)
  token-length = length-take-le (last_nonblank (sn_cells p row)) (sn_cells p row) (last_within (sn_cells p row))

  pub row-long : 2048 < length row → None ≡ told (request_of p row)
  unfolding request_of
  row-long h = rw (lt-ltb 2048 (length row) h)

  module _ (h : length row ≤ 2048) (n : ℕ) (g : n ≡ length (cells_of row)) where
    pub row_other : (n ≡ p.cells → ⊥) → None ≡ told (request_of p row)
    unfolding request_of
    row_other d = rw (le-ltb 2048 (length row) h, sym g, ne_eqb n p.cells d)

    module _ (d : n ≡ p.cells) (cell : List ℕ) (s : Swap) (c : cell ≡ cell_of p SwapColumn row) (w : s ≡ swap_of cell) where
      read-row : request_of p row ≡ with_swap s p row
      unfolding request_of
      read-row = rw (le-ltb 2048 (length row) h, sym g, eq-eqb n p.cells d, sym c, sym w)

      module _ (ts : List (List ℕ)) (f : ts ≡ sn_cells p row) (count : ℕ) (k : count ≡ last_nonblank ts) where
        pub row-no : s ≡ No → Some (record { swap = false; count = count }) ≡ told (request_of p row)
        row-no e = rw (read-row, e, token-length, k, f)

        pub row-yes : s ≡ Yes → Some (record { swap = true; count = count }) ≡ told (request_of p row)
        row-yes e = rw (read-row, e, token-length, k, f)

      pub row-swap : s ≡ Other → None ≡ told (request_of p row)
      row-swap e = rw (read-row, e)
