use Rattle.token_head.proofs.opening.Laws.{word-iso, word-anteiso, word_none}
use Rattle.token_head.proofs.opening.branch_word.Goals as goal

pub returns-then-starts_with : goal.returns-then-starts_with
returns-then-starts_with c = search word-iso

pub returns-then-starts_with-2 : goal.returns-then-starts_with-2
returns-then-starts_with-2 c = search word-anteiso

pub returns : goal.returns
returns c = search word_none
