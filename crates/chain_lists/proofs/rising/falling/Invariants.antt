use Rattle.std.proofs.Common.{take}
use Rattle.chain_lists.proofs.rising.FallingLaws.{FallsOn}
use Rattle.chain_lists.proofs.rising.falling.Given as goal

abbrev pub invariant-loop-p : goal.invariant-loop-p
invariant-loop-p l = FallsOn (take l.p-index l.chains) l.last
