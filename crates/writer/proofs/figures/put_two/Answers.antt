use native.Mathlib.Omega.{arith}
use Rattle.writer.proofs.store.Laws.{written-two}
use Rattle.writer.proofs.figures.put_two.Goals as goal

pub returns : goal.returns
returns c = search (written-two, arith)
