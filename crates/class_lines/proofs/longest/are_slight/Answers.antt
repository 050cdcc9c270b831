use native.Mathlib.Omega.{arith}
use Rattle.class_lines.proofs.longest.Stood.{slight}
use Rattle.class_lines.proofs.longest.are_slight.Goals as goal

pub returns : goal.returns
returns c = λ e. slight c.loop-i.i (omega arith) c.loop-i.invariant
