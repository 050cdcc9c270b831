use borrow.Author.Rules.{rules}
use native.Mathlib.Omega.{arith}
use Rattle.scanner.proofs.part.Laws.{text-here, text-more, text-none}
use Rattle.token_syntax.proofs.form.find_cy.Goals as goal

pub loop-t-init : goal.loop-t-init
loop-t-init c = (omega arith, omega arith)

pub returns-then-starts_with_cy : goal.returns-then-starts_with_cy
returns-then-starts_with_cy c = search text-here

pub loop-t-preserved : goal.loop-t-preserved
loop-t-preserved c = (search text-more, search rules)

pub returns : goal.returns
returns c = search text-none
