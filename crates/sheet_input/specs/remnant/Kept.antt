-- A block of the input after its lines. 01, Batch program: "42, place 0: a row over 2,048 bytes": of a line that is longer no more than one
-- byte more is kept. Assumes nothing.
use Rattle.std.specs.Prelude.{ℕ, ◌≡◌, List, ◌++◌, length, take, drop}
use Rattle.scanner.specs.part.Part.{part}

-- one byte more than the longest row has
abbrev pub kept : ℕ
kept = 2049

-- the start of the part of a block from a place up to another, as much of it as is kept
abbrev pub kept_of : List ℕ → ℕ → ℕ → List ℕ
kept_of xs from to = take kept (part from to xs)

-- that part now stands at the start of the block, the rest is unchanged
pub record Moved (xs : List ℕ) (from to : ℕ) (ys : List ℕ) (r : ℕ) : Type 0 where
  pub bytes : ys ≡ kept_of xs from to ++ drop (length (kept_of xs from to)) xs
  pub count : r ≡ length (kept_of xs from to)
