use borrow.Author.Rules.{rules}
use Rattle.sheet_input.proofs.header.Laws.{plan-start, plan-unknown, plan-doubled, plan-last, plan-more}
use mathlib.Core.Path.{refl, ◌∙◌}
use native.Mathlib.Omega.{arith}
use Rattle.sheet_input.proofs.header.plan_of.Goals as goal

pub loop-column-init : goal.loop-column-init
loop-column-init c = (search plan-start, refl, omega arith)

pub returns-in_err-column_of : goal.returns-in_err-column_of
returns-in_err-column_of c = c.from_residual.ensures ∙ plan-unknown _ _ _ _ _ _ c.find-end.ensures c.column_of.ensures c.loop-column.invariant.0 c.in_err-column_of.was

pub returns-then-places-column-ne0 : goal.returns-then-places-column-ne0
returns-then-places-column-ne0 c =
    plan-doubled _ _ _ _ _ _ c.find-end.ensures c.column_of.ensures c.loop-column.invariant.0 _ c.in_ok-column_of.was _ c.index-column.ensures c.loop-column.invariant.1 c.if-places-column-ne0.true

pub returns-then-end-t : goal.returns-then-end-t
returns-then-end-t c =
    plan-last _ _ _ _ _ _ c.find-end.ensures c.column_of.ensures c.loop-column.invariant.0 _ c.in_ok-column_of.was _ c.index-column.ensures c.loop-column.invariant.1 c.if-places-column-ne0.false _ c.if-end-t.true c.whole_plan.ensures

pub loop-column-preserved : goal.loop-column-preserved
loop-column-preserved c =
    (plan-more _ _ _ _ _ _ c.find-end.ensures c.column_of.ensures c.loop-column.invariant.0 _ c.in_ok-column_of.was _ c.index-column.ensures c.loop-column.invariant.1 c.if-places-column-ne0.false c.if-end-t.false, search rules, omega arith)
