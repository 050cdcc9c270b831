use Rattle.chain_lists.proofs.sn_sites.SitesLaws.{site-alone, sites-pair}
use borrow.Author.Rules.{rules}
use Rattle.chain_lists.proofs.sn_sites.sites_by_sn.Goals as goal

pub returns-then-b-lt-MAX_CHAINS : goal.returns-then-b-lt-MAX_CHAINS
returns-then-b-lt-MAX_CHAINS c = sites-pair _ _ _ _ _ _ (search rules) c.in_places-n.ensures c.if-n-eq2.true c.two_sites.ensures

pub returns-then-n-eq1 : goal.returns-then-n-eq1
returns-then-n-eq1 c = site-alone _ _ _ _ _ _ (search rules) c.in_places-n.ensures c.if-n-eq1.true c.one_site.ensures
