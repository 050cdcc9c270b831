use Rattle.token_reader.proofs.token.Short.{segments-end}
use Rattle.token_reader.proofs.token.end_segments.Goals as goal

pub returns : goal.returns
returns c = search segments-end
