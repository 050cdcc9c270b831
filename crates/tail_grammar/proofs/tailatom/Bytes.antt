-- A law of the test on a byte.
use Prim.Native.Nat.{ℕ}
use native.Mathlib.Omega.{arith}
use mathlib.Core.Path.{◌≡◌, refl}
use mathlib.Core.List.{List, [], ◌∷◌}
use lib.Dec.{eqb}
use Rattle.std.specs.List.{list_any}
use Rattle.std.proofs.lemmas.Bool.Decides.{nat_tests}
use Rattle.reading_rules.specs.reading.Lexer.{memb}

-- `contains` of std asks of each byte whether it is b, and `memb` of b whether it is the byte
pub contains_memb : (b : ℕ) (bs : List ℕ) → list_any (λ y. eqb y b) bs ≡ memb b bs
unfolding memb
contains_memb b [] = refl
contains_memb b (y ∷ ys) = let e = contains_memb b ys in grind (arith, nat_tests, e)
