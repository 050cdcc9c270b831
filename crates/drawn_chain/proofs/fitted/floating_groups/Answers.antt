use mathlib.Core.Path.{refl}
use lib.ListN.{take}
use native.Mathlib.Omega.{arith}
use Rattle.drawn_chain.proofs.fitted.Drawing.{counted-few, floating-pass, floating-put, floating-end}
use borrow.Author.Rules.{rules}
use Rattle.drawn_chain.proofs.fitted.floating_groups.Goals as goal

pub loop-group-preserved-then-group-ne0 : goal.loop-group-preserved-then-group-ne0
loop-group-preserved-then-group-ne0 c = (floating-pass (take c.args.n c.args.written.now) c.loop-group.group-index _ refl c.loop-group-test.true _ c.loop-group.invariant.0 c.if-group-ne0.true, omega arith, search rules)

pub loop-group-preserved : goal.loop-group-preserved
loop-group-preserved c = (search (floating-put, counted-few), omega arith, search rules)

pub returns : goal.returns
returns c = search floating-end
