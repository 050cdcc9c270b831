-- Numbers in the blocks. 01, The line and its reading: "numbers are digits without a leading zero, below 2^32".
use Rattle.std.specs.Prelude.{ℕ, Bool, true, false, cond, not, List, [], ◌∷◌, eqb, Option as CodeOption, Some, None}
use Rattle.std.proofs.Math.Option.{Option, none, some}
use Rattle.scanner.specs.scan.Number.{is_digit, all_digits, value_from, checked, digits_up_to, number_limit}

-- a zero leads only where it stands alone
unfoldable pub leads : List ℕ → Bool
leads [] = false
leads (x ∷ []) = true
leads (x ∷ y ∷ xs) = not (eqb x 48)

-- the answer of `scanner`, which is an option of the code, as one of the definitions here
unfoldable pub value_of : CodeOption ℕ → Option ℕ
value_of (Some n) = some n
value_of None = none

-- digits only, at least one
unfoldable pub number : List ℕ → Option ℕ
unfolding leads value_of digits_up_to checked all_digits is_digit value_from
number xs = cond (leads xs) (value_of (digits_up_to number_limit xs)) none
