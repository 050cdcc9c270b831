use Rattle.token_features.proofs.features.Laws.{repeated-open, repeated-unknown, repeated-unreadable, repeated-is}
use Rattle.token_syntax.proofs.form.Laws.{one-fits}
use Rattle.token_features.proofs.naming.read_repeated.Goals as goal

pub returns-then-close-s : goal.returns-then-close-s
returns-then-close-s c = search repeated-open

pub returns-in_default : goal.returns-in_default
returns-in_default c = search repeated-unknown

pub returns-in_default-number_or_one : goal.returns-in_default-number_or_one
returns-in_default-number_or_one c = search repeated-unreadable

pub overflow_cast-result : goal.overflow_cast-result
overflow_cast-result c = search one-fits

pub returns : goal.returns
returns c = search repeated-is
