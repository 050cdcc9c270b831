-- Laws of an index. Assumes nothing.
use Prim.Native.Nat.{ℕ, ◌+◌, ◌≤◌, min}
use native.Mathlib.Omega.{arith}
use mathlib.Core.Path.{◌≡◌}
use Rattle.writer.specs.index_runs.Index.{in_room, index_from}

pub room-is : (n : ℕ) → n ≤ 4294000000 → in_room n ≡ n
room-is n h = omega arith

pub index-is : (first i m r : ℕ) → m ≡ in_room first → r ≡ min (m + i) 65535 → r ≡ index_from first i
unfolding index_from
index-is first i m r e f = rw (f, e)
