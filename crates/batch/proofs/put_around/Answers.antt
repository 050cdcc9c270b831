use Rattle.batch.proofs.InPlace.{around-told}
use native.Mathlib.Omega.{arith}
use Rattle.batch.proofs.put_around.Goals as goal

pub returns : goal.returns
returns c = search (around-told, arith)
