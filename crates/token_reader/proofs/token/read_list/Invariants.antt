use Prim.Native.Nat.{◌≤◌}
use mathlib.Core.Path.{◌≡◌}
use lib.ListN.{length}
use Rattle.token_reader.proofs.token.Short.{So}
use Rattle.token_reader.proofs.token.read_list.Given as goal

abbrev pub invariant-loop-count : goal.invariant-loop-count
invariant-loop-count l = So l.s l.t l.bonds l.count × (length l.t ≤ length l.s) × (length l.bonds ≡ 32)
