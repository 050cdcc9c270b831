use Prim.Native.Nat.{◌≤◌}
use mathlib.Core.Path.{◌≡◌}
use lib.ListN.{length}
use Rattle.token_reader.proofs.token.Grouping.{Onto}
use Rattle.token_reader.proofs.token.read_groups.Given as goal

abbrev pub invariant-loop-count : goal.invariant-loop-count
invariant-loop-count l = Onto l.s l.t l.groups l.count × (length l.t ≤ length l.s) × (length l.groups ≡ 16)
