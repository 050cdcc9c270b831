use Rattle.chain_lists.proofs.indices.IndexLaws.{sum-none, sum_more, sum-all}
use Rattle.chain_lists.proofs.indices.start_of.Goals as goal

pub loop-p-init : goal.loop-p-init
loop-p-init c = sum-none _

pub loop-p-preserved : goal.loop-p-preserved
loop-p-preserved c = search sum_more

pub returns : goal.returns
returns c = search sum-all
