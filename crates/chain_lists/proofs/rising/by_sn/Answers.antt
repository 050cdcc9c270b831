use Rattle.chain_lists.proofs.rising.OrderLaws.{in-places}
use Rattle.chain_lists.proofs.rising.FallingLaws.{falling-held}
use Rattle.chain_lists.proofs.rising.by_sn.Goals as goal

pub returns-then-falling : goal.returns-then-falling
returns-then-falling c = search falling-held

pub returns : goal.returns
returns c = search in-places
