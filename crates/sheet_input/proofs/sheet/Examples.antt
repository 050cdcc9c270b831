-- Worked headers and rows, computed. Assumes nothing.
use mathlib.Core.Path.{◌≡◌, refl}
use mathlib.Core.Bool.{true, false}
use mathlib.Core.List.{List, [], ◌∷◌, ◌++◌}
use Prim.Native.Nat.{ℕ}
use Rattle.std.specs.Prelude.{Some, None}
use Rattle.std.specs.Option.{option_map}
use Rattle.scanner.specs.scan.Part.{same_bytes}
use Rattle.token_syntax.specs.form.Parts.{parts_at}
use Rattle.reading_rules.specs.reading.Ascii.{ascii}
use Rattle.sheet_input.specs.declared.header.Plan.{Plan}
use Rattle.sheet_input.specs.header.Header.{column_of, plan_from, plan_of}
use Rattle.sheet_input.specs.cellwords.Words.{swap_of, last_nonblank}
use Rattle.sheet_input.specs.cells.Cells.{cell_at}
use Rattle.sheet_input.specs.sheet.Sheet.{Unreadable, Asks, request_of}

-- the header `class`, `sn1` and the row `FA`, `6:1` of 01
header : List ℕ
header = ascii "class" ++ 9 ∷ ascii "sn1"

its_plan : Plan
its_plan = record { cells = 2; places = 1 ∷ 0 ∷ 0 ∷ 2 ∷ 0 ∷ 0 ∷ 0 ∷ [] }

plan-read : plan_of header ≡ Some its_plan
unfolding header its_plan plan_of plan_from column_of parts_at same_bytes ascii
plan-read = refl

its-row : option_map (λ p. request_of p (ascii "FA" ++ 9 ∷ ascii "6:1")) (plan_of header) ≡ Some (Asks (ascii "FA") false [] (ascii "6:1" ∷ []))
unfolding header plan_of plan_from column_of parts_at same_bytes ascii request_of cell_at swap_of last_nonblank
its-row = refl

-- a name left out counts as blank, and a blank sn before a nonblank one is an empty token
third-alone : option_map (λ p. request_of p (ascii "4:0" ++ 9 ∷ (ascii "1" ++ 9 ∷ ascii "GL3"))) (plan_of (ascii "sn3" ++ 9 ∷ (ascii "swap" ++ 9 ∷ ascii "class")))
    ≡ Some (Asks (ascii "GL3") true [] ([] ∷ [] ∷ ascii "4:0" ∷ []))
unfolding plan_of plan_from column_of parts_at same_bytes ascii request_of cell_at swap_of last_nonblank
third-alone = refl

-- 42: another cell count, and a swap other than 0, 1 or blank
too_few : option_map (λ p. request_of p (ascii "FA")) (plan_of header) ≡ Some Unreadable
unfolding header plan_of plan_from column_of parts_at same_bytes ascii request_of cell_at swap_of last_nonblank
too_few = refl

wrong-swap : option_map (λ p. request_of p (ascii "FA" ++ 9 ∷ ascii "2")) (plan_of (ascii "class" ++ 9 ∷ ascii "swap")) ≡ Some Unreadable
unfolding plan_of plan_from column_of parts_at same_bytes ascii request_of cell_at swap_of last_nonblank
wrong-swap = refl

-- 42: an unknown name, a doubled one, no class, and a header of no bytes
unknown-name : plan_of (ascii "class" ++ 9 ∷ ascii "SN1") ≡ None
unfolding plan_of plan_from column_of parts_at same_bytes ascii
unknown-name = refl

doubled-name : plan_of (ascii "class" ++ 9 ∷ (ascii "sn1" ++ 9 ∷ ascii "class")) ≡ None
unfolding plan_of plan_from column_of parts_at same_bytes ascii
doubled-name = refl

no-class : plan_of (ascii "sn1") ≡ None
unfolding plan_of plan_from column_of parts_at same_bytes ascii
no-class = refl

no_bytes : plan_of [] ≡ None
unfolding plan_of plan_from column_of parts_at same_bytes ascii
no_bytes = refl
