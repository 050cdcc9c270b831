use native.Mathlib.Omega.{arith}
use Rattle.line_builder.proofs.Pushes.{fixed-is}
use Rattle.line_builder.proofs.Builder.push_fixed.Goals as goal

pub returns : goal.returns
returns c = search (fixed-is, arith)
