use borrow.Author.Rules.{rules}
use native.Mathlib.Omega.{arith}
use lib.ListN.{length-set}
use mathlib.Core.Bool.{false≢true}
use Rattle.carbons.proofs.Placing.{pass_all, pass-more, pass-room, pass-end}
use Rattle.carbons.proofs.put_rising.Goals as goal

pub loop-bond-init : goal.loop-bond-init
loop-bond-init c = (search rules, search pass_all)

pub returns-then-bond-last : goal.returns-then-bond-last
returns-then-bond-last c = λ e. absurd (false≢true e)

pub returns-then-carbon-p : goal.returns-then-carbon-p
returns-then-carbon-p c = λ e. absurd (false≢true e)

pub mark_bond-requires : goal.mark_bond-requires
mark_bond-requires c = (omega arith, search rules, simp length-set (omega arith))

pub loop-bond-preserved : goal.loop-bond-preserved
loop-bond-preserved c = (search pass-room, search (pass-more, arith))

pub returns : goal.returns
returns c = λ e. search (pass-end, arith)
