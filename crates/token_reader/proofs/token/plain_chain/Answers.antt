use Rattle.token_reader.proofs.token.Short.{plain-unseated, plain-seated}
use Rattle.token_reader.proofs.token.plain_chain.Goals as goal

pub returns-in_default : goal.returns-in_default
returns-in_default c = search plain-unseated

pub returns : goal.returns
returns c = search plain-seated
