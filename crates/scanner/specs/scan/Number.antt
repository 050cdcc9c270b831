-- Numbers in lent bytes. 01, Token reader: "A number is digits after at most one `+`, at most 4,294,967,295 (a ring's n: below 2^64); the
-- bond count and a group's leading position are digits only." The limit is a parameter; it bounds the value and not the count of digits.
-- Assumes nothing.
use Rattle.std.specs.Prelude.{ℕ, ◌+◌, ◌*◌, ◌-◌, List, [], ◌∷◌, Bool, true, false, cond, ltb, eqb, Option, Some, None}
unfoldable pub use Rattle.scanner.specs.digits.Digit.{is_digit}
pub use Rattle.scanner.specs.digits.Digit.{digit_run}

unfoldable pub all_digits : List ℕ → Bool
all_digits [] = true
all_digits (d ∷ ds) = cond (is_digit d) (all_digits ds) false

-- the value of digits that follow the value v
unfoldable pub value_from : ℕ → List ℕ → ℕ
value_from v [] = v
value_from v (d ∷ ds) = value_from (v * 10 + (d - 48)) ds

-- bytes that follow the value v, where they are digits and the number is at most the limit
unfoldable pub checked : ℕ → ℕ → List ℕ → Option ℕ
checked limit v ds = cond (all_digits ds) (cond (ltb limit (value_from v ds)) None (Some (value_from v ds))) None

-- digits only: at least one
unfoldable pub digits_up_to : ℕ → List ℕ → Option ℕ
digits_up_to limit [] = None
digits_up_to limit (d ∷ ds) = checked limit 0 (d ∷ ds)

-- without one leading plus sign
unfoldable pub after_plus : List ℕ → List ℕ
after_plus [] = []
after_plus (x ∷ xs) = cond (eqb x 43) xs (x ∷ xs)

-- digits after at most one plus sign
unfoldable pub number_up_to : ℕ → List ℕ → Option ℕ
number_up_to limit s = digits_up_to limit (after_plus s)

-- the limit of every number but a ring's n
abbrev pub number_limit : ℕ
number_limit = 4294967295

-- the limit of a ring's n: below 2^64
abbrev pub ring_count_limit : ℕ
ring_count_limit = 18446744073709551615
