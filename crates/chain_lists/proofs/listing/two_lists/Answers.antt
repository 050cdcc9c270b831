use Rattle.chain_lists.proofs.listing.ListsLaws.{lists-here}
use Rattle.chain_lists.proofs.listing.two_lists.Goals as goal

pub returns : goal.returns
returns c = search lists-here
