use Rattle.chain_refusals.proofs.offchain.Off.{off-bond, off-group, off-ring, off-ether, on-carbons, off-rest}
use Rattle.chain_refusals.proofs.offchain.off_chain.Goals as goal

pub returns-then-any_bond_off : goal.returns-then-any_bond_off
returns-then-any_bond_off c = search off-bond

pub returns-then-any_group_off : goal.returns-then-any_group_off
returns-then-any_group_off c = search off-group

pub returns-then-any_ring_off : goal.returns-then-any_ring_off
returns-then-any_ring_off c = search off-ring

pub returns-then-x : goal.returns-then-x
returns-then-x c = search off-ether

pub returns-then-x-gt0 : goal.returns-then-x-gt0
returns-then-x-gt0 c = search on-carbons

pub returns : goal.returns
returns c = search off-rest
