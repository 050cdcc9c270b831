use native.Mathlib.Omega.{arith}
use Rattle.chain_indices.proofs.grouped_atoms.BareLaws.{bare-numbered}
use Rattle.chain_indices.proofs.grouped_atoms.number_bare.Goals as goal

pub returns : goal.returns
returns c = search (bare-numbered, arith)
