-- Laws of the program over the stored tokens.
-- Assumes nothing.
use Prim.Native.Nat.{ℕ, ◌≤◌}
use native.Mathlib.Omega.{arith}
use mathlib.Core.Path.{◌≡◌}
use mathlib.Core.List.{List}
use lib.ListN.{length}

-- a line's bytes stand within its array
pub line-within : (xs : List ℕ) (n : ℕ) → n ≤ 256 → length xs ≡ 256 → n ≤ length xs
line-within xs n h l = omega arith
