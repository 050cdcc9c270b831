use Rattle.chain_refusals.proofs.offchain.Off.{group-before, group-after}
use Rattle.chain_refusals.proofs.offchain.group_off.Goals as goal

pub returns-then-group-first : goal.returns-then-group-first
returns-then-group-first c = search group-before

pub returns-else-group-first : goal.returns-else-group-first
returns-else-group-first c = search group-after
