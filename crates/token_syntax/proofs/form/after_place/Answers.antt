use Rattle.token_syntax.proofs.form.Laws.{after-some, after_none}
use Rattle.token_syntax.proofs.form.after_place.Goals as goal

pub returns-then-at-s : goal.returns-then-at-s
returns-then-at-s c = search after-some

pub returns : goal.returns
returns c = search after_none
