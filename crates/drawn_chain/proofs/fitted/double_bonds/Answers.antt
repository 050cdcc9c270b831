use Rattle.drawn_chain.proofs.fitted.Drawing.{bonds-two, bonds-next, bonds-all}
use borrow.Author.Rules.{rules}
use Rattle.drawn_chain.proofs.fitted.double_bonds.Goals as goal

pub loop-i-init : goal.loop-i-init
loop-i-init c = (search bonds-two, search rules)

pub loop-i-preserved : goal.loop-i-preserved
loop-i-preserved c = (search bonds-next, search rules)

pub returns : goal.returns
returns c = search bonds-all
