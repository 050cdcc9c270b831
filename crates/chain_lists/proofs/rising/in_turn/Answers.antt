use Rattle.chain_lists.proofs.rising.FourLaws.{filled_none}
use Rattle.chain_lists.proofs.rising.OrderLaws.{places-are}
use Rattle.chain_lists.proofs.rising.in_turn.Goals as goal

pub returns : goal.returns
returns c = search (places-are, filled_none)
