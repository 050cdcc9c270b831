-- The header of a sheet. 01, Batch program: "a header (class, and any of swap, tail, sn1..sn4, any order, tab between)"; "42, place 0: .. a
-- header with an unknown or doubled name or no class". Bytes: tab 9. Assumes nothing.
use Rattle.std.specs.Prelude.{ℕ, suc, cond, List, [], ◌∷◌, get_or, set, replicate, eqb, Option, None, Some}
use Rattle.std.specs.Option.{option_and_then}
use Rattle.scanner.specs.scan.Part.{same_bytes}
use Rattle.token_syntax.specs.form.Parts.{parts_at}
use Rattle.reading_rules.specs.reading.Ascii.{ascii}
use Rattle.sheet_input.specs.declared.header.Column.{Column}
use Rattle.sheet_input.specs.declared.header.Column.TheVariants.{Class, Swap, Tail, Sn1, Sn2, Sn3, Sn4}
use Rattle.sheet_input.specs.declared.header.Plan.{Plan}

-- the cells of a line
abbrev pub cells_of : List ℕ → List (List ℕ)
cells_of line = parts_at 9 line

-- the place of a column in a plan
abbrev pub column_index : Column → ℕ
column_index Class = 0
column_index Swap = 1
column_index Tail = 2
column_index Sn1 = 3
column_index Sn2 = 4
column_index Sn3 = 5
column_index Sn4 = 6

-- the column that a name heads, if it is known
unfoldable pub column_of : List ℕ → Option Column
column_of name =
    cond (same_bytes name (ascii "class")) (Some Class)
    (cond (same_bytes name (ascii "swap")) (Some Swap)
    (cond (same_bytes name (ascii "tail")) (Some Tail)
    (cond (same_bytes name (ascii "sn1")) (Some Sn1)
    (cond (same_bytes name (ascii "sn2")) (Some Sn2)
    (cond (same_bytes name (ascii "sn3")) (Some Sn3)
    (cond (same_bytes name (ascii "sn4")) (Some Sn4) None))))))

-- the plan of the names of a header after n others, which stand at these places, counted from 1, with 0 for a column that none of them heads: a
-- name has to be known and not doubled, and class has to be among them; if not, 42
unfoldable pub plan_from : ℕ → List ℕ → List (List ℕ) → Option Plan
plan_from n places [] = cond (eqb (get_or places (column_index Class) 0) 0) None (Some (record { cells = n; places = places }))
plan_from n places (name ∷ names) =
    option_and_then
    (λ column.
    let plan = plan_from (suc n) (set places (column_index column) (suc n)) names in
    cond (eqb (get_or places (column_index column) 1) 0) plan None)
    (column_of name)

-- the plan of the sheet: how many cells a row has, and the cell of each column
unfoldable pub plan_of : List ℕ → Option Plan
plan_of header = plan_from 0 (replicate 7 0) (cells_of header)
