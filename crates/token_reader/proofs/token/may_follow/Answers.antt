use Rattle.token_reader.proofs.token.Short.{follows-none, follows-some}
use Rattle.token_reader.proofs.token.may_follow.Goals as goal

pub returns-then-v-eq0 : goal.returns-then-v-eq0
returns-then-v-eq0 c = λ e. search follows-none

pub returns : goal.returns
returns c = λ e. search (follows-some, e)
