-- What a table of digits holds. Assumes nothing.
use Rattle.std.specs.Prelude.{ℕ, ◌+◌, ◌*◌, ◌/◌, ◌%◌, ◌<◌, ◌≡◌, List, length, get_or}

-- a table of the two digits of numbers below 100, the tens in the low byte and the ones in the high one; the empty table is one
pub record Pairs (xs : List ℕ) : Type 0 where
  pub pair : (n : ℕ) → n < 100 → n < length xs → get_or xs n 0 ≡ 12336 + n / 10 + n % 10 * 256
