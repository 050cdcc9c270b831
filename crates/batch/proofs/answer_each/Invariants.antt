use Prim.Native.Nat.{◌≤◌, ◌<◌, ◌^◌}
use mathlib.Core.Path.{◌≡◌}
use lib.ListN.{length}
use Rattle.batch.proofs.LineLaws.{Turned}
use Rattle.batch.proofs.answer_each.Given as goal

abbrev pub invariant-loop-p : goal.invariant-loop-p
invariant-loop-p l = Turned l.initial.b l.text l.initial.index l.initial.out l.at l.index l.out l.b l.t l.p × (length l.t ≤ length l.text) × (length l.initial.out < 2 ^ 64) × (length l.index ≡ length l.initial.index) × (length l.out ≡ length l.initial.out)

abbrev pub decreases-loop-p : goal.decreases-loop-p
decreases-loop-p l = length l.t
