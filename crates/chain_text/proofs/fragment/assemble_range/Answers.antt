use borrow.Author.Rules.{rules}
use mathlib.Core.Path.{refl}
use native.Mathlib.Omega.{arith}
use Rattle.carbons.proofs.Left.{left-all, left-length}
use Rattle.chain_text.proofs.fragment.RangeLaws.{carbon-busy, carbon-run, carbons-end}
use Rattle.chain_text.proofs.fragment.assemble_range.Goals as goal

pub loop-k-init : goal.loop-k-init
loop-k-init c = (search rules, refl, search rules, search rules, left-all _ _ _ (omega arith))

pub loop-k-preserved-then-busy-k-eq0 : goal.loop-k-preserved-then-busy-k-eq0
loop-k-preserved-then-busy-k-eq0 c = (omega arith, search rules, search rules, search rules, search carbon-run)

pub loop-k-preserved : goal.loop-k-preserved
loop-k-preserved c = (omega arith, search rules, search rules, search rules, search (carbon-busy, arith))

pub shape_of-out : goal.shape_of-out
shape_of-out c = search left-length

pub returns : goal.returns
returns c = search (carbons-end, arith)
