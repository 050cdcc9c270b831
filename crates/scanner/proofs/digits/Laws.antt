-- Laws of digits: the test for one, by what the code asks.
-- Assumes nothing.
use Prim.Native.Nat.{ℕ, ◌≤◌, ◌<◌}
use mathlib.Core.Path.{◌≡◌}
use mathlib.Core.Bool.{false}
use lib.Dec.{leb}
use borrow.Author.Tests.{lt-ltb, le-ltb}
use Rattle.scanner.specs.digits.Digit.{is_digit}

pub digit_low : (b : ℕ) → b < 48 → false ≡ is_digit b
unfolding is_digit
digit_low b h = rw (lt-ltb b 48 h)

pub digit-test : (b : ℕ) → 48 ≤ b → leb b 57 ≡ is_digit b
unfolding is_digit
digit-test b h = rw (le-ltb b 48 h)
