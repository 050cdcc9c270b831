-- The definitions at work on the bytes `a; b `: each answer with its next place, at the start, behind a part, at the end and past it.
-- Assumes nothing.
use Prim.Native.Nat.{ℕ}
use mathlib.Core.Path.{◌≡◌, refl}
use mathlib.Core.List.{List, [], ◌∷◌}
use Rattle.scanner.specs.part.Part.{first_byte}
use Rattle.scanner.specs.reader.Reading.{place_in, part_from}

abbrev bytes : List ℕ
bytes = 97 ∷ 59 ∷ 32 ∷ 98 ∷ 32 ∷ []

-- the last part has no `;` behind it, so the next place is 6, past the end
pub parts-read : (part_from 59 bytes 0 ≡ record { from = 0; to = 1; next = 2 }) × (part_from 59 bytes 2 ≡ record { from = 2; to = 5; next = 6 })
    × (part_from 59 bytes 5 ≡ record { from = 5; to = 5; next = 6 }) × (part_from 59 bytes 9 ≡ record { from = 5; to = 5; next = 6 })
unfolding part_from place_in first_byte
parts-read = (refl, refl, refl, refl)
