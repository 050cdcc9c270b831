use native.Mathlib.Omega.{arith}
use Rattle.carbons.proofs.Left.{written-three}
use Rattle.chain_text.proofs.fragment.put_busy.Goals as goal

pub returns : goal.returns
returns c = search (written-three, arith)
