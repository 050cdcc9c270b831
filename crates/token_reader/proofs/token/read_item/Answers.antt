use Rattle.token_reader.proofs.token.Grouping.{item-read}
use Rattle.token_reader.proofs.token.read_item.Goals as goal

pub returns : goal.returns
returns c = search item-read
