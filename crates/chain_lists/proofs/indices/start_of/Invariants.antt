use Rattle.chain_lists.proofs.indices.IndexLaws.{SumTo}
use Rattle.chain_lists.proofs.indices.start_of.Given as goal

abbrev pub invariant-loop-p : goal.invariant-loop-p
invariant-loop-p l = SumTo l.before l.p-index l.sum
