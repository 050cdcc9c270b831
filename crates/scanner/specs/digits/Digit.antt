-- Digits in lent bytes. Assumes nothing.
use Rattle.std.specs.Prelude.{ℕ, List, Bool, false, not, cond, ltb, leb}
use Rattle.scanner.specs.part.Part.{first_byte}

-- `0` to `9`
unfoldable pub is_digit : ℕ → Bool
is_digit b = cond (ltb b 48) false (leb b 57)

-- how many digits lead
abbrev pub digit_run : List ℕ → ℕ
digit_run xs = first_byte (λ x. not (is_digit x)) xs
