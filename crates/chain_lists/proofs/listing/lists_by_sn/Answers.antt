use Rattle.chain_lists.proofs.listing.ListsLaws.{list-alone, lists-both}
use borrow.Author.Rules.{rules}
use Rattle.chain_lists.proofs.listing.lists_by_sn.Goals as goal

pub returns-then-b-lt-MAX_CHAINS : goal.returns-then-b-lt-MAX_CHAINS
returns-then-b-lt-MAX_CHAINS c = lists-both _ _ _ _ _ _ (search rules) c.in_places-n.ensures c.if-n-eq2.true c.two_lists.ensures

pub returns-then-n-eq1 : goal.returns-then-n-eq1
returns-then-n-eq1 c = list-alone _ _ _ _ _ _ (search rules) c.in_places-n.ensures c.if-n-eq1.true c.one_list.ensures
