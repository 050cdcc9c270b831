use Rattle.token_features.proofs.features.Laws.{part-no-abbreviation, part-unreadable, part-is}
use Rattle.token_syntax.proofs.form.Laws.{position-fits}
use Rattle.token_features.proofs.items.read_part.Goals as goal

pub returns-then-n-s : goal.returns-then-n-s
returns-then-n-s c = search part-no-abbreviation

pub returns-in_default : goal.returns-in_default
returns-in_default c = search part-unreadable

pub overflow_cast-pos : goal.overflow_cast-pos
overflow_cast-pos c = search position-fits

pub returns : goal.returns
returns c = search part-is
