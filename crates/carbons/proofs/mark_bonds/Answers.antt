use native.Mathlib.Omega.{arith}
use Rattle.carbons.proofs.BondLaws.{marks-all, marks-less, marks-end}
use Rattle.carbons.proofs.mark_bonds.Goals as goal

pub loop-p-init : goal.loop-p-init
loop-p-init c = marks-all

pub loop-p-preserved : goal.loop-p-preserved
loop-p-preserved c = search (marks-less, arith)

pub returns : goal.returns
returns c = search (marks-end, arith)
