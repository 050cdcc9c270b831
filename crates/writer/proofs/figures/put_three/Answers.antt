use native.Mathlib.Omega.{arith}
use Rattle.writer.proofs.store.Laws.{written-three}
use Rattle.writer.proofs.figures.put_three.Goals as goal

pub returns : goal.returns
returns c = search (written-three, arith)
