use Rattle.token_syntax.proofs.form.Laws.{form-parts, form-repeated, form-listed}
use Rattle.token_syntax.proofs.form.group_form.Goals as goal

pub returns-then-open-s : goal.returns-then-open-s
returns-then-open-s c = search form-parts

pub returns-then-open-eq0 : goal.returns-then-open-eq0
returns-then-open-eq0 c = search form-repeated

pub returns : goal.returns
returns c = search form-listed
