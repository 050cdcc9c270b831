use Rattle.token_reader.proofs.token.Laws.{empty-token, opened-chain}
use Rattle.token_reader.proofs.token.parse_trimmed.Goals as goal

pub returns-then-same : goal.returns-then-same
returns-then-same c = search empty-token

pub returns : goal.returns
returns c = search opened-chain
