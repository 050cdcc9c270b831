use Rattle.token_features.proofs.features.Laws.{listed-unreadable, listed-is}
use Rattle.token_syntax.proofs.form.Laws.{trimmed-fits}
use Rattle.token_features.proofs.items.read_listed.Goals as goal

pub returns-in_default : goal.returns-in_default
returns-in_default c = search listed-unreadable

pub overflow_cast-pos : goal.overflow_cast-pos
overflow_cast-pos c = search trimmed-fits

pub returns : goal.returns
returns c = search listed-is
