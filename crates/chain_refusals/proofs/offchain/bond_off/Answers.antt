use Rattle.chain_refusals.proofs.offchain.Off.{bond-before, bond-after}
use Rattle.chain_refusals.proofs.offchain.bond_off.Goals as goal

pub returns-then-bond-first : goal.returns-then-bond-first
returns-then-bond-first c = search bond-before

pub returns-else-bond-first : goal.returns-else-bond-first
returns-else-bond-first c = search bond-after
