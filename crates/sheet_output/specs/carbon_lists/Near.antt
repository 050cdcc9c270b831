-- What is written of the indices of a chain where there is room for them. Assumes nothing.
use Rattle.std.specs.Prelude.{ℕ, ◌+◌, ◌*◌, ◌-◌, ◌^◌, ◌≤◌, ◌<◌, List, map, length, take}
use Rattle.writer.specs.emit.Text.{Written, decimal}
use Rattle.reading_rules.specs.reading.Parting.{joined}

-- a text was written, and the place after it is k further on at most
pub record Near (k : ℕ) (xs : List ℕ) (at : ℕ) (ts ys : List ℕ) (r : ℕ) : Type 0 where
  pub text : Written xs at ts ys r
  pub next : r ≤ at + k

-- after the first indices of a chain were written, more of them were, up to the one at `next`: six bytes for each at most
pub record Dotted (js : List ℕ) (from : ℕ) (ys : List ℕ) (p : ℕ) (zs : List ℕ) (q next : ℕ) : Type 0 where
  pub text : (xs : List ℕ) (a : ℕ) → length xs < 2 ^ 64 → Written xs a (joined 46 (map decimal (take from js))) ys p → Written xs a (joined 46 (map decimal (take next js))) zs q
  pub low : from ≤ next
  pub high : next ≤ length js
  pub near : q ≤ p + 6 * (next - from)
