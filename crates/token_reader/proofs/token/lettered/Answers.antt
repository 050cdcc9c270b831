use Rattle.token_reader.proofs.token.Short.{letter-cis, letter-trans}
use Rattle.token_reader.proofs.token.lettered.Goals as goal

pub returns-in-90 : goal.returns-in-90
returns-in-90 c = search letter-cis

pub returns-in-69 : goal.returns-in-69
returns-in-69 c = search letter-trans
