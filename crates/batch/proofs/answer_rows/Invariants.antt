use Prim.Native.Nat.{◌≤◌, ◌<◌, ◌^◌}
use mathlib.Core.Path.{◌≡◌}
use lib.ListN.{length}
use Rattle.batch.specs.Batch.{among}
use Rattle.batch.proofs.LineLaws.{Turned}
use Rattle.batch.proofs.answer_rows.Given as goal

abbrev pub invariant-loop-p : goal.invariant-loop-p
invariant-loop-p l = Turned (among l.plan l.initial.times) l.text l.initial.index l.initial.out l.at l.index l.out (among l.plan l.times) l.t l.p × (length l.t ≤ length l.text) × (length l.initial.out < 2 ^ 64) × (length l.times ≡ length l.initial.times) × (length l.index ≡ length l.initial.index) × (length l.out ≡ length l.initial.out)

abbrev pub decreases-loop-p : goal.decreases-loop-p
decreases-loop-p l = length l.t
