use Prim.Native.Nat.{◌-◌, ◌≤◌}
use mathlib.Core.Path.{◌≡◌}
use lib.ListN.{length}
use Rattle.scanner.proofs.scan.Laws.{most}
use Rattle.scanner.specs.scan.Number.{digits_up_to, checked}
use Rattle.scanner.proofs.scan.read_few.Given as goal

abbrev pub invariant-loop-t : goal.invariant-loop-t
invariant-loop-t l = (digits_up_to l.limit l.s ≡ checked l.limit l.v l.t) × (l.v ≤ most (9 - length l.t)) × (l.v ≤ 999999999) × (length l.t ≤ 9)

abbrev pub decreases-loop-t : goal.decreases-loop-t
decreases-loop-t l = length l.t
