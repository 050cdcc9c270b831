use Rattle.token_syntax.proofs.form.Laws.{form-plain, form-no-cy, form-no-dash, form-ring}
use Rattle.token_syntax.proofs.form.form_of.Goals as goal

pub returns-then-not-has_mark : goal.returns-then-not-has_mark
returns-then-not-has_mark c = search form-plain

pub returns-then-cy-s : goal.returns-then-cy-s
returns-then-cy-s c = search form-no-cy

pub returns-then-dash-cy : goal.returns-then-dash-cy
returns-then-dash-cy c = search form-no-dash

pub returns : goal.returns
returns c = search form-ring
