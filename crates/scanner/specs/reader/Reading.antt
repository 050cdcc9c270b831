-- What stands at a place of lent bytes, and the place that is read next: what the contracts of `reader` cite. 01, "Rust forms replaced":
-- "a token reader of lent bytes with the next place". A place past the end reads as the end. Assumes nothing.
use Rattle.std.specs.Prelude.{ℕ, ◌+◌, List, cond, length, drop, ltb}
use Rattle.scanner.specs.part.Part.{index_of}
use Rattle.scanner.specs.declared.reader.Part.{Part}

-- the place itself, or the end where it lies past it
unfoldable pub place_in : List ℕ → ℕ → ℕ
place_in s at = cond (ltb (length s) at) (length s) at

-- n bytes from a place on; the byte after them is passed over
abbrev pub part_of : ℕ → ℕ → Part
part_of from n = record { from = from; to = from + n; next = from + n + 1 }

-- the part from a place up to the first b, or to the end. The next place is the one after that b, so it lies past the end exactly where no
-- b follows: then this part is the last one.
unfoldable pub part_from : ℕ → List ℕ → ℕ → Part
part_from b s at = part_of (place_in s at) (index_of b (drop (place_in s at) s))
