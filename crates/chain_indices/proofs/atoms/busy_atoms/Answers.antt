use mathlib.Core.Path.{refl}
use Rattle.chain_indices.proofs.atoms.AtomLaws.{busy-counted}
use Rattle.chain_indices.proofs.atoms.busy_atoms.Goals as goal

pub returns : goal.returns
returns c = busy-counted _ _ _ _ _ _ c.requires refl c.bridge_atoms.ensures
