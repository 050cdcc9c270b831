use native.Mathlib.Omega.{arith}
use Rattle.batch.proofs.LineLaws.{finished}
use Rattle.batch.proofs.finish.Goals as goal

pub returns : goal.returns
returns c = search (finished, arith)
