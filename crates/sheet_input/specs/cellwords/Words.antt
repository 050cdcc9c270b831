-- What the cells of a row say. 01, Batch program: "Blank swap is 0; tokens run to the last nonblank sn"; "a swap other than 0, 1 or blank".
-- Bytes: `0` 48, `1` 49. Assumes nothing.
use Rattle.std.specs.Prelude.{ℕ, zero, suc, cond, List, [], ◌∷◌, length, eqb}
use Rattle.sheet_input.specs.declared.cellwords.Swap.{Swap}
use Rattle.sheet_input.specs.declared.cellwords.Swap.TheVariants.{No, Yes, Other}

-- "swap other than 0, 1 or blank"; "Blank swap is 0"
unfoldable pub swap_of : List ℕ → Swap
swap_of [] = No
swap_of (b ∷ []) = cond (eqb b 48) No (cond (eqb b 49) Yes Other)
swap_of (a ∷ b ∷ bs) = Other

-- the place from 1 of the last nonblank cell, for the length of the first cell and that place among the others; 0 where all are blank
abbrev pub last_after : ℕ → ℕ → ℕ
last_after zero zero = 0
last_after zero (suc n) = suc (suc n)
last_after (suc k) n = suc n

unfoldable pub last_nonblank : List (List ℕ) → ℕ
last_nonblank [] = 0
last_nonblank (cell ∷ cells) = last_after (length cell) (last_nonblank cells)
