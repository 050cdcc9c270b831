use Rattle.token_reader.proofs.token.Laws.{no-count, count-read}
use Rattle.token_reader.proofs.token.parse_bonds.Goals as goal

pub returns-in_default : goal.returns-in_default
returns-in_default c = search no-count

pub returns : goal.returns
returns c = search count-read
