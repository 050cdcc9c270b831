use Rattle.carbons.proofs.BondLaws.{rises-so}
use Rattle.carbons.proofs.TokenLaws.{bonds-marked}
use native.Mathlib.Omega.{arith}
use borrow.Author.Rules.{rules}
use Rattle.carbons.proofs.marked_bonds.Goals as goal

pub mark_rising-requires : goal.mark_rising-requires
mark_rising-requires c = record { doubles_value = search rises-so; carbon_in_bounds = search rules }

pub returns-then-rises : goal.returns-then-rises
returns-then-rises c = bonds-marked _ _ c.plain_bonds.ensures (search rules) (omega arith) c.mark_rising.ensures

pub returns : goal.returns
returns c = bonds-marked _ _ c.plain_bonds.ensures (search rules) (omega arith) c.mark_any.ensures
