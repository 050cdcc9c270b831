use native.Mathlib.Omega.{arith}
use Rattle.token_head.specs.positions.Positions.{ring_bond_list}
use Rattle.token_head.proofs.positions.Each.{each_none}
use Rattle.token_head.proofs.positions.Laws.{bonding-start, bond-unreadable, bond-last, bond-more}
use borrow.Author.Rules.{rules}
use Rattle.token_head.proofs.positions.parse_ring_bonds.Goals as goal

pub returns-then-s-eq0 : goal.returns-then-s-eq0
unfolding ring_bond_list
returns-then-s-eq0 c = search each_none

pub loop-bond-init : goal.loop-bond-init
loop-bond-init c = (search bonding-start, omega arith)

pub returns-in_default : goal.returns-in_default
returns-in_default c = search bond-unreadable

pub returns-then-n-t : goal.returns-then-n-t
returns-then-n-t c = search bond-last

pub loop-bond-preserved : goal.loop-bond-preserved
loop-bond-preserved c = (search bond-more, search rules)
