use borrow.Author.Rules.{rules}
use native.Mathlib.Omega.{arith}
use mathlib.Core.Bool.{false≢true}
use Rattle.placement.proofs.chain_strand.Laws.{rise-all, rise-more, rise-end}
use Rattle.placement.proofs.chain_strand.groups_rise.Goals as goal

pub loop-group-init : goal.loop-group-init
loop-group-init c = (search rules, search rise-all)

pub returns-then-group-k : goal.returns-then-group-k
returns-then-group-k c = λ e. absurd (false≢true e)

pub returns-then-last-group : goal.returns-then-last-group
returns-then-last-group c = λ e. absurd (false≢true e)

pub loop-group-preserved : goal.loop-group-preserved
loop-group-preserved c = (search rules, search (rise-more, arith))

pub returns : goal.returns
returns c = λ e. search (rise-end, arith)
