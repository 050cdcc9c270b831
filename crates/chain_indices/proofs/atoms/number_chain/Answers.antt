use Rattle.chain_indices.proofs.atoms.NumberLaws.{chain-numbered}
use Rattle.chain_indices.proofs.atoms.number_chain.Goals as goal

pub returns : goal.returns
returns c = search chain-numbered
