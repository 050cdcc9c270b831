use Rattle.token_syntax.proofs.form.Laws.{cy-second, cy-other}
use Rattle.token_syntax.proofs.form.is_cy.Goals as goal

pub returns-then-a-eq99 : goal.returns-then-a-eq99
returns-then-a-eq99 c = search cy-second

pub returns : goal.returns
returns c = search cy-other
