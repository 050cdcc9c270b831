use native.Mathlib.Omega.{arith}
use Rattle.chain_rules.specs.declared.chain.Role.TheVariants.{Slot}
use Rattle.drawn_chain.proofs.fitted.Drawing.{adds-few}
use Rattle.drawn_chain.proofs.fitted.Laying.{chain_fits}
use borrow.Author.Rules.{rules}
use Rattle.drawn_chain.proofs.fitted.chain_as.Goals as goal

pub double_bonds-requires : goal.double_bonds-requires
double_bonds-requires c = (search adds-few, search rules, search rules)

pub overflow_add-result : goal.overflow_add-result
overflow_add-result c = omega (arith, adds-few Slot _ _ c.ether_bonds-added.ensures)

pub returns : goal.returns
returns c = search chain_fits
