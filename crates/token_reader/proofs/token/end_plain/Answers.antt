use Rattle.token_reader.proofs.token.Short.{plain-all, plain_in}
use Rattle.token_reader.proofs.token.end_plain.Goals as goal

pub returns-then-usual : goal.returns-then-usual
returns-then-usual c = search plain-all

pub returns : goal.returns
returns c = search plain_in
