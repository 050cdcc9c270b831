-- A count with a limit. Assumes nothing.
use Rattle.std.specs.Prelude.{ℕ, ◌≤◌, ◌≡◌}

-- n is m, and at most a limit
pub record Counts (limit m n : ℕ) : Type 0 where
  pub is : n ≡ m
  pub few : n ≤ limit
