-- The gaps in a list of labels: runs of atoms without one. Assumes nothing.
use Rattle.std.specs.Prelude.{ℕ, ◌≤◌, ◌<◌, min, ◌≡◌, cond, List, ltb}
use Rattle.std.proofs.Math.Option.{none}
use Rattle.reading_rules.specs.reading.Molecule.{At, look}

-- r is past atom a and at most `last`, and no atom between a and r has a label
pub record Gap (a last : ℕ) (ls : List (At ℕ)) (r : ℕ) : Type 0 where
  pub past : a < r
  pub within : r ≤ last
  pub bare : (j : ℕ) → a < j → j < r → look j ls ≡ none

-- an atom where it lies past a and before n, else n
unfoldable pub nearest : ℕ → ℕ → ℕ → ℕ
nearest a atom n = cond (ltb a atom) (min atom n) n
