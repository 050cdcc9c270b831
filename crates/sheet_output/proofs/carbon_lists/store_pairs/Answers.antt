use borrow.Author.Rules.{rules}
use native.Mathlib.Omega.{arith}
use Rattle.sheet_output.proofs.carbon_lists.Stored.{dotted-start, dotted-more}
use Rattle.sheet_output.proofs.carbon_lists.store_pairs.Goals as goal

pub returns-then-pairs-lt-PAIRS : goal.returns-then-pairs-lt-PAIRS
returns-then-pairs-lt-PAIRS c = search dotted-start

pub loop-i-init : goal.loop-i-init
loop-i-init c = (search dotted-start, search rules, omega arith, search rules, search rules)

pub loop-i-preserved : goal.loop-i-preserved
loop-i-preserved c = (search dotted-more, omega arith, omega arith, omega arith, search rules)
