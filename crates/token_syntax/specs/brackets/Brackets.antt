-- The text of a segment. Bytes: `[` 91, `]` 93. Assumes nothing.
use Rattle.std.specs.Prelude.{ℕ, List, [], ◌∷◌, Bool, true, false, cond, eqb}
use Rattle.scanner.specs.scan.Part.{trimmed}

-- without leading `[`
unfoldable pub after_opening : List ℕ → List ℕ
after_opening [] = []
after_opening (x ∷ xs) = cond (eqb x 91) (after_opening xs) (x ∷ xs)

-- a byte before what is left of the bytes after it, where a `]` with nothing left after it falls
abbrev pub unless_closing : Bool → ℕ → List ℕ → List ℕ
unless_closing true x [] = []
unless_closing true x (y ∷ ys) = x ∷ y ∷ ys
unless_closing false x ys = x ∷ ys

-- without trailing `]`
unfoldable pub before_closing : List ℕ → List ℕ
before_closing [] = []
before_closing (x ∷ xs) = unless_closing (eqb x 93) x (before_closing xs)

-- 01, Token reader: "A segment is trimmed, leading `[` and trailing `]` fall". All of them fall, and nothing is trimmed after that.
unfoldable pub segment_text : List ℕ → List ℕ
segment_text s = before_closing (after_opening (trimmed s))
