use native.Mathlib.Omega.{arith}
use borrow.Author.Rules.{rules}
use Rattle.token_reader.proofs.token.Short.{so-none, so-more, list-last}
use Rattle.token_reader.proofs.token.read_list.Goals as goal

pub loop-count-init : goal.loop-count-init
loop-count-init c = (search so-none, omega arith, search rules)

pub returns-then-t-n-eq41 : goal.returns-then-t-n-eq41
returns-then-t-n-eq41 c = search (list-last, c.in_ok-spot.ensures)

pub loop-count-preserved : goal.loop-count-preserved
loop-count-preserved c = (search (so-more, c.in_ok-spot.ensures), search rules, search rules)
