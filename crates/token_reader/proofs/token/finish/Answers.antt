use Rattle.token_reader.proofs.token.Laws.{finish-unseated, finish-bare, finish-read}
use Rattle.token_reader.proofs.token.finish.Goals as goal

pub returns-in_default : goal.returns-in_default
returns-in_default c = search finish-unseated

pub returns-then-bare_oxygens : goal.returns-then-bare_oxygens
returns-then-bare_oxygens c = search finish-bare

pub returns : goal.returns
returns c = search finish-read
