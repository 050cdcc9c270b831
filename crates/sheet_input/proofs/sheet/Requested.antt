-- What the code says of a row is the row.
-- Assumes nothing.
use Prim.Native.Nat.{ℕ}
use mathlib.Core.Path.{◌≡◌, refl, sym, ◌∙◌}
use mathlib.Core.Bool.{Bool, true, false, cond}
use mathlib.Core.List.{List}
use lib.ListN.{length, take}
use lib.Seq.{length-take-le}
use lib.Dec.{eqb, ltb}
use Rattle.std.specs.Prelude.{Option, None, Some}
use Rattle.std.proofs.lemmas.Option.{none-some, same_Some}
use Rattle.sheet_input.specs.declared.header.Column.TheVariants.{Class, Swap as SwapColumn, Tail}
use Rattle.sheet_input.specs.declared.header.Plan.{Plan}
use Rattle.sheet_input.specs.declared.sheet.Asked.{Asked}
use Rattle.sheet_input.specs.declared.cellwords.Swap.{Swap}
use Rattle.sheet_input.specs.declared.cellwords.Swap.TheVariants.{No, Yes, Other}
use Rattle.sheet_input.specs.header.Header.{cells_of}
use Rattle.sheet_input.specs.cellwords.Words.{swap_of, last_nonblank}
use Rattle.sheet_input.specs.cells.Cells.{cell_of, sn_cells, tokens_in}
use Rattle.sheet_input.specs.sheet.Sheet.{max_row, Row, Unreadable, Asks, with_swap, request_of, told}
use Rattle.sheet_input.proofs.cellwords.Laws.{last_within}

-- a row is unreadable, or its cells are its request
data Either (p : Plan) (row : List ℕ) : Row → Type 0 where
  none : Either p row Unreadable
  some : (swap : Bool) → Either p row (Asks (cell_of p Class row) swap (cell_of p Tail row) (tokens_in p row))

either : (p : Plan) (row : List ℕ) → Either p row (request_of p row)
unfolding request_of
either p row = long (ltb max_row (length row))
  where
    swapped : (s : Swap) → Either p row (with_swap s p row)
    swapped No = some false
    swapped Yes = some true
    swapped Other = none

    counted : (b : Bool) → Either p row (cond b (with_swap (swap_of (cell_of p SwapColumn row)) p row) Unreadable)
    counted true = swapped (swap_of (cell_of p SwapColumn row))
    counted false = none

    long : (b : Bool) → Either p row (cond b Unreadable (cond (eqb (length (cells_of row)) p.cells) (with_swap (swap_of (cell_of p SwapColumn row)) p row) Unreadable))
    long true = none
    long false = counted (eqb (length (cells_of row)) p.cells)

module _ (p : Plan) (row : List ℕ) (o : Option Asked) (e : o ≡ told (request_of p row)) where
  pub asked-nothing : o ≡ None → request_of p row ≡ Unreadable
  asked-nothing h = go (request_of p row) (either p row) (sym e ∙ h)
    where
      go : (w : Row) → Either p row w → told w ≡ None → w ≡ Unreadable
      go w none f = refl
      go w (some swap) f = absurd (none-some (record { swap = swap; count = length (tokens_in p row) }) (sym f))

  module _ (a : Asked) (h : o ≡ Some a) where
    count : length (tokens_in p row) ≡ last_nonblank (sn_cells p row)
    count = length-take-le (last_nonblank (sn_cells p row)) (sn_cells p row) (last_within (sn_cells p row))

    asked_as : (swap : Bool) → told (Asks (cell_of p Class row) swap (cell_of p Tail row) (tokens_in p row)) ≡ Some a
        → a ≡ record { swap = swap; count = last_nonblank (sn_cells p row) }
    asked_as swap f = sym (same_Some (record { swap = swap; count = length (tokens_in p row) }) a f) ∙ (rw count refl)

    pub asked-request : request_of p row ≡ Asks (cell_of p Class row) a.swap (cell_of p Tail row) (take a.count (sn_cells p row))
    asked-request = go (request_of p row) (either p row) (sym e ∙ h)
      where
        go : (w : Row) → Either p row w → told w ≡ Some a → w ≡ Asks (cell_of p Class row) a.swap (cell_of p Tail row) (take a.count (sn_cells p row))
        go w none f = absurd (none-some a f)
        go w (some swap) f = rw (asked_as swap f)

    -- the count is that of the tokens
    pub asked-count : a.count ≡ length (take a.count (sn_cells p row))
    asked-count = go (request_of p row) (either p row) (sym e ∙ h)
      where
        go : (w : Row) → Either p row w → told w ≡ Some a → a.count ≡ length (take a.count (sn_cells p row))
        go w none f = absurd (none-some a f)
        go w (some swap) f = rw (asked_as swap f) (sym count)
