use Rattle.token_syntax.proofs.form.Laws.{cy-starts, cy-short}
use Rattle.token_syntax.proofs.form.starts_with_cy.Goals as goal

pub returns-then-s-gt1 : goal.returns-then-s-gt1
returns-then-s-gt1 c = search cy-starts

pub returns : goal.returns
returns c = search cy-short
