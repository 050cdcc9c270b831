use Rattle.chain_lists.proofs.rising.FourLaws.{added_more, added_full}
use Rattle.chain_lists.proofs.rising.put.Goals as goal

pub returns-then-at-lt-MAX_CHAINS : goal.returns-then-at-lt-MAX_CHAINS
returns-then-at-lt-MAX_CHAINS c = search added_more

pub returns : goal.returns
returns c = search added_full
