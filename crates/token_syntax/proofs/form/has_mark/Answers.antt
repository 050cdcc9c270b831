use mathlib.Core.Path.{refl}
use mathlib.Core.Bool.{true≢false}
use native.Mathlib.Omega.{arith}
use Rattle.token_syntax.proofs.form.Laws.{unmarked-cy, unmarked-open, unmarked-end}
use Rattle.token_syntax.proofs.form.has_mark.Goals as goal

pub loop-t-init : goal.loop-t-init
loop-t-init c = (refl, refl)

pub returns-then-t-eq99 : goal.returns-then-t-eq99
returns-then-t-eq99 c e = absurd (true≢false e)

pub returns-then-t-eq40 : goal.returns-then-t-eq40
returns-then-t-eq40 c e = absurd (true≢false e)

pub loop-t-preserved : goal.loop-t-preserved
loop-t-preserved c = (search unmarked-cy, search unmarked-open)

pub returns : goal.returns
returns c e = unmarked-end c.args.s.now c.loop-t.t.now (omega arith) c.loop-t.invariant.0 c.loop-t.invariant.1
