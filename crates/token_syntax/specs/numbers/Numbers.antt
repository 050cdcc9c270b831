-- The numbers in a segment. 01, Token reader: "A number is digits after at most one `+`, at most 4,294,967,295 (a ring's n: below 2^64);
-- the bond count and a group's leading position are digits only." Assumes nothing.
use Rattle.std.specs.Prelude.{ℕ, List, [], ◌∷◌, Option, Some}
use Rattle.scanner.specs.scan.Part.{trimmed}
use Rattle.scanner.specs.scan.Number.{digits_up_to, number_up_to, number_limit, ring_count_limit}
unfoldable pub use Rattle.token_syntax.specs.padded.Padded.{trimmed_number}

-- a number where something stands, else m
abbrev pub unless_blank : ℕ → List ℕ → Option ℕ → Option ℕ
unless_blank m [] n = Some m
unless_blank m (x ∷ xs) n = n

-- 01: "optionally `:n` .., blank n being 0"
unfoldable pub ring_count : List ℕ → Option ℕ
ring_count s = unless_blank 0 (trimmed s) (number_up_to ring_count_limit (trimmed s))

-- 01: "digits then abbr, no digits meaning 0"
unfoldable pub leading_position : List ℕ → Option ℕ
leading_position s = unless_blank 0 s (digits_up_to number_limit s)

-- 01: "`(abbr)n`: n unlocated groups, 1 if nothing follows"; "`O` with an optional number (1 without)". Nothing is trimmed there.
unfoldable pub number_or_one : List ℕ → Option ℕ
number_or_one s = unless_blank 1 s (number_up_to number_limit s)
