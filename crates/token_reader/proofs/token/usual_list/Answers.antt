use Rattle.token_reader.proofs.token.Short.{lists-read}
use Rattle.token_reader.proofs.token.usual_list.Goals as goal

pub returns : goal.returns
returns c = search (lists-read, c.in_ok-read.ensures)
