use Rattle.std.proofs.Common.{◌≡◌, ◌-◌, ◌≤◌, length}
use Rattle.token_vectors.proofs.read_full.Given as goal

abbrev pub invariant-loop-done : goal.invariant-loop-done
invariant-loop-done l = (length l.block ≡ length l.initial.block) × (l.done ≤ length l.block)

abbrev pub decreases-loop-done : goal.decreases-loop-done
decreases-loop-done l = length l.block - l.done
