use Rattle.token_features.proofs.features.Laws.{oxygens-unreadable, oxygens-are}
use Rattle.token_syntax.proofs.form.Laws.{one-fits}
use Rattle.token_features.proofs.items.oxygen_count.Goals as goal

pub returns-in_default : goal.returns-in_default
returns-in_default c = search oxygens-unreadable

pub overflow_cast-result : goal.overflow_cast-result
overflow_cast-result c = search one-fits

pub returns : goal.returns
returns c = search oxygens-are
