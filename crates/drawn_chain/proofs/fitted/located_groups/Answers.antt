use native.Mathlib.Omega.{arith}
use Rattle.drawn_chain.proofs.fitted.Drawing.{counted-few, located-pass, located-put, located_end}
use borrow.Author.Rules.{rules}
use Rattle.drawn_chain.proofs.fitted.located_groups.Goals as goal

pub loop-group-preserved-then-group-eq0 : goal.loop-group-preserved-then-group-eq0
loop-group-preserved-then-group-eq0 c = (search located-pass, omega arith, search rules)

pub loop-group-preserved : goal.loop-group-preserved
loop-group-preserved c = (search (located-put, counted-few), omega arith, search rules)

pub returns : goal.returns
returns c = search (located_end, counted-few)
