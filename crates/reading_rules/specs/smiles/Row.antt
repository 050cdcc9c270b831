-- What a text reads to: one row for each atom, in the order of the text.
-- 01, The line and its reading: "A molecule is its atoms by number, each with its bytes ..; the set of its bonds, each with the lower
-- atom, the higher atom and its mark, `-` counting as none".
use Rattle.std.specs.Prelude.{ℕ, List}

-- a bond to a lower atom: that atom's number, and the mark's byte, 0 for none
pub data Link : Type 0 where
  link : ℕ → ℕ → Link

-- an atom: its bytes, and its links in the order in which the text makes them
pub data Row : Type 0 where
  row : List ℕ → List Link → Row
