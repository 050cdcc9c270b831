use Rattle.chain_lists.proofs.listing.ListsLaws.{list-here, list-past}
use Rattle.chain_lists.proofs.listing.one_list.Goals as goal

pub returns-then-k-lt-MAX_CHAINS : goal.returns-then-k-lt-MAX_CHAINS
returns-then-k-lt-MAX_CHAINS c = search list-here

pub returns : goal.returns
returns c = search list-past
