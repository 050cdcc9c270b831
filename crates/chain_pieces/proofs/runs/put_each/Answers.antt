use borrow.Author.Rules.{rules}
use native.Mathlib.Omega.{arith}
use mathlib.Core.Path.{refl}
use lib.ListN.{length-set}
use Rattle.chain_pieces.proofs.runs.Carbons.{carbons-none, carbons-one, carbons-end}
use Rattle.chain_pieces.proofs.runs.put_each.Goals as goal

pub loop-p-init : goal.loop-p-init
loop-p-init c = (omega arith, omega arith, search rules, refl, search (carbons-none, arith))

pub loop-p-preserved : goal.loop-p-preserved
loop-p-preserved c = (omega arith, omega arith, search rules, simp length-set (search rules), search (carbons-one, arith))

pub returns : goal.returns
returns c = search (carbons-end, arith)
