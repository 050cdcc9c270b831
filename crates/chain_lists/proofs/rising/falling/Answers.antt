use native.Mathlib.Omega.{arith}
use Rattle.chain_lists.proofs.rising.FallingLaws.{falls-first, falls-more, falls-not, falls-all}
use Rattle.chain_lists.proofs.rising.falling.Goals as goal

pub loop-p-init : goal.loop-p-init
loop-p-init c = falls-first

pub returns-then-p-eq0 : goal.returns-then-p-eq0
returns-then-p-eq0 c = falls-not _

pub returns-then-last-p : goal.returns-then-last-p
returns-then-last-p c = falls-not _

pub loop-p-preserved : goal.loop-p-preserved
loop-p-preserved c = falls-more _ _ _ _ c.loop-p-test.true (omega arith) (omega arith) c.loop-p.invariant

pub returns : goal.returns
returns c = falls-all _ _ _ c.loop-p-test.false c.loop-p.invariant
